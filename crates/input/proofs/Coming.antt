-- What several reads add to what is kept.
use Prim.Native.Nat.{ℕ, ◌+◌, ◌-◌, ◌≤◌, ◌<◌}
use mathlib.Core.Path.{◌≡◌, refl, sym, subst, ◌∙◌}
use mathlib.Core.Bool.{false≢true}
use mathlib.Core.List.{List, [], ◌++◌}
use mathlib.Core.Logic.{⊎_elim}
use native.Mathlib.Omega.{arith}
use lib.ListN.{length, take, length-append}
use lib.Seq.{take_all, take-append-le, take-append-add}
use Rattle.std.specs.Prelude.{Ok}
use Rattle.base.proofs.Numbers.{nat_le_or_lt}
use Rattle.definitions.specs.Limits.{kept_bytes}
use Rattle.definitions.specs.Bytes.{put}
use Rattle.definitions.proofs.Put.{put_nil, put_put}
use Rattle.input.specs.Came.{Answer, Came, OnceRead, once, read_size}

-- As much of two lists as fits, where the first fits.
take_both : (k : ℕ) (a b : List ℕ) → length a ≤ k → take k (a ++ b) ≡ a ++ take (k - length a) b
take_both k a b h =
    let e : length a + (k - length a) ≡ k = omega arith in
    subst (λ (n : ℕ). take n (a ++ b) ≡ a ++ take (k - length a) b) e (take-append-add a b (k - length a))

-- Bytes kept behind others are kept with them.
pub kept_more : (l a b : List ℕ) (size : ℕ) → length a ≡ size
    → put (put l 0 (take (kept_bytes - 0) a)) size (take (kept_bytes - size) b) ≡ put l 0 (take (kept_bytes - 0) (a ++ b))
kept_more l a b size e = ⊎_elim
    (λ (s : size ≤ kept_bytes).
    let both : take kept_bytes (a ++ b) ≡ a ++ take (kept_bytes - size) b = rw (← e) (take_both kept_bytes a b (omega arith)) in
    rw (take_all kept_bytes a (omega arith), both) (put_put l 0 a size (take (kept_bytes - size) b) (omega arith) (omega arith)))
    (λ (s : kept_bytes < size).
    let none : kept_bytes - size ≡ 0 = omega arith in
    rw (none, take-append-le kept_bytes a b (omega arith)) (put_nil (put l 0 (take kept_bytes a)) size))
    (nat_le_or_lt size kept_bytes)

-- Before the first read.
unfoldable pub came_none : (kept : List ℕ) → Came kept 0 0 kept
came_none kept = record { bytes = []; count = refl; kept = sym (put_nil kept 0) }

-- After one more.
unfoldable pub came_more : {before : List ℕ} {size : ℕ} {mid : List ℕ} {r : ℕ} {after : List ℕ} {total : ℕ} → Came before 0 size mid → Came mid size r after → total ≡ size + r
    → Came before 0 total after
came_more {before} {size} a b t = record {
  bytes = a.bytes ++ b.bytes;
  count = rw length-append (omega (arith, a.count, b.count));
  kept = b.kept ∙ rw a.kept (kept_more before a.bytes b.bytes size a.count);
}

-- What one read left, by what it answered.
pub record Once (before : List ℕ) (size r : ℕ) (after : List ℕ) : Type 0 where
  pub answer : Answer
  pub is : answer ≡ Ok r
  pub few : r ≤ read_size
  pub came : Came before size r after

pub once_came : {before : List ℕ} {size r : ℕ} {after : List ℕ} {x : Answer} → OnceRead before size x after → x ≡ Ok r → Once before size r after
once_came {before} {size} (once {r = n} {after} a e h c) f =
    subst (λ (k : ℕ). Once before size k after) (let q : n ≡ _ = cc in q) (record { answer = a; is = e; few = h; came = c })
once_came (OnceRead.broken a h) f = absurd (false≢true (rw f at h))
