-- Bytes kept in their places, as far as they fit.
use Prim.Native.Nat.{ℕ, ◌+◌, ◌-◌, ◌≤◌, ◌<◌}
use mathlib.Core.Path.{◌≡◌, sym, ◌∙◌}
use mathlib.Core.List.{List}
use mathlib.Core.Logic.{⊎_elim}
use native.Mathlib.Omega.{arith}
use lib.ListN.{length, take}
use lib.Seq.{take_all, length-take-le}
use borrow.Rule.Slice.PartMut.{put_mid, Post-is}
use Rattle.std.specs.Prelude.{min}
use Rattle.base.proofs.Numbers.{nat_le_or_lt}
use Rattle.definitions.specs.Limits.{kept_bytes}
use Rattle.definitions.specs.Bytes.{put}
use Rattle.definitions.proofs.Put.{put_nil}

-- Values written to the part of a list that is as long as they are.
part_put : (l : List ℕ) (at n : ℕ) (vs : List ℕ) → length vs ≡ n → put_mid at (at + n - at) l vs ≡ put l at vs
unfolding put
part_put l at n vs e = rw (Post-is at (at + n) l (omega arith), e)

-- Of some bytes as many as fit.
fitting : (k n : ℕ) (bytes : List ℕ) → n ≡ min (length bytes) k → take n bytes ≡ take k bytes
fitting k n bytes e = ⊎_elim
    (λ (s : length bytes ≤ k). take_all n bytes (omega arith) ∙ sym (take_all k bytes s))
    (λ (s : k < length bytes). let f : n ≡ k = omega arith in rw f)
    (nat_le_or_lt (length bytes) k)

-- As many as fit are written from place `size` on, or nothing past the end.
pub kept_part :
    (l : List ℕ) (size : ℕ) (bytes : List ℕ) {at n : ℕ} {now : List ℕ} → at ≡ min size kept_bytes → n ≡ min (length bytes) (kept_bytes - at) → now ≡ take n bytes
    → put_mid at (at + n - at) l now ≡ put l size (take (kept_bytes - size) bytes)
kept_part l size bytes {at} {n} {now} a e is =
    let front : now ≡ take (kept_bytes - size) bytes = is ∙ fitting (kept_bytes - size) n bytes (omega arith) in
    let long : length now ≡ n = rw is (length-take-le n bytes (omega arith)) in
    ⊎_elim
    (λ (s : size ≤ kept_bytes). let same : at ≡ size = omega arith in part_put l at n now long ∙ rw (same, front))
    (λ (s : kept_bytes < size).
    let none : kept_bytes - size ≡ 0 = omega arith in
    part_put l at n now long ∙ rw (front, none) (put_nil l at ∙ sym (put_nil l size)))
    (nat_le_or_lt size kept_bytes)
