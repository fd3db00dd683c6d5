-- A list of bytes copied to a part of a buffer, and putting one after the other.
use Prim.Native.Nat.{ℕ, ◌+◌, ◌-◌, ◌≤◌, ◌<◌}
use mathlib.Core.Path.{◌≡◌, refl, ap, sym, ◌∙◌}
use mathlib.Core.List.{List, [], ◌∷◌, ◌++◌}
use native.Mathlib.Omega.{arith}
use lib.ListN.{length, set, length-set, length-append}
use Rattle.definitions.specs.Bytes.{put}
use borrow.Rule.Slice.PartMut.{put_mid, Post-is}
use Rattle.definitions.proofs.Put.{put_put, put_one, put_nil, length_put}
use Rattle.printing.specs.Text.{Putting}

-- Values written to the part of the buffer that is as long as they are.
pub part_put : {l : List ℕ} {at : ℕ} {text now : List ℕ} → now ≡ text → at + length text ≤ length l → Putting l at text (put_mid at (at + length text - at) l now) (at + length text)
unfolding put
part_put {l} {at} {text} e room =
    let same : put_mid at (at + length text - at) l text ≡ put l at text = rw (Post-is at (at + length text) l (omega arith)) in
    record { next_is = refl; after_is = rw e same; kept = rw (e, same) (length_put l at text (omega arith) room) }

-- ---- putting one after the other

-- Nothing.
pub put_nothing : (l : List ℕ) (at : ℕ) → Putting l at [] l at
put_nothing l at = record { kept = refl; next_is = omega arith; after_is = sym (put_nil l at) }

-- One value.
pub put_single : (l : List ℕ) (at x : ℕ) → at < length l → Putting l at (x ∷ []) (set l at x) (at + 1)
put_single l at x room = record { kept = length-set l at x; next_is = omega arith; after_is = put_one l at x room }

-- Values right after others are put with them.
pub put_then : {l : List ℕ} {at : ℕ} {a mid : List ℕ} {next : ℕ} {b after : List ℕ} {end : ℕ} → Putting l at a mid next → Putting mid next b after end
    → at ≤ length l → Putting l at (a ++ b) after end
put_then {l} {at} {a} {mid} {next} {b} {after} {end} p q inside = record {
  kept = q.kept ∙ p.kept;
  next_is = rw length-append (omega (arith, p.next_is, q.next_is));
  after_is = q.after_is ∙ ap (λ (s : List ℕ). put s next b) p.after_is ∙ put_put l at a next b inside p.next_is;
}
