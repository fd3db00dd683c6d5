-- Numbers put one after another, each after a single space, and the lines that hold them.
use Prim.Native.Nat.{ℕ, ◌+◌, ◌≤◌, ◌<◌}
use mathlib.Core.Path.{◌≡◌, refl, sym, ap, ◌∙◌}
use mathlib.Core.List.{List, [], ◌∷◌, ◌++◌, append_assoc, append-nil}
use native.Mathlib.Numerals.{add-one}
use lib.ListN.{length, get_or, take}
use lib.Seq.{take-suc}
use Rattle.definitions.specs.Programs.{decimal}
use Rattle.definitions.specs.Reasons.{spaced}
use Rattle.printing.specs.Text.{Putting}
use Rattle.printing.proofs.Copy.{put_nothing, put_then}

-- Numbers behind others.
spaced_join : (a b : List ℕ) → spaced (a ++ b) ≡ spaced a ++ spaced b
unfolding spaced
spaced_join [] b = refl
spaced_join (x ∷ a) b = ap (λ (l : List ℕ). 32 ∷ l) (ap (λ (l : List ℕ). decimal x ++ l) (spaced_join a b) ∙ sym (append_assoc (decimal x) (spaced a) (spaced b)))

spaced_one : (x : ℕ) → spaced (x ∷ []) ≡ 32 ∷ decimal x
unfolding spaced
spaced_one x = ap (λ (l : List ℕ). 32 ∷ l) (append-nil (decimal x))

-- One more number.
spaced_more : (xs : List ℕ) (i : ℕ) → i < length xs → spaced (take (i + 1) xs) ≡ spaced (take i xs) ++ (32 ∷ decimal (get_or xs i 0))
spaced_more xs i h =
    ap spaced (ap (λ (k : ℕ). take k xs) (add-one i) ∙ take-suc xs i 0 h)
    ∙ spaced_join (take i xs) (get_or xs i 0 ∷ [])
    ∙ ap (λ (l : List ℕ). spaced (take i xs) ++ l) (spaced_one (get_or xs i 0))

-- None yet,
pub numbers_none : (l : List ℕ) (at : ℕ) (xs : List ℕ) → Putting l at (spaced (take 0 xs)) l at
unfolding spaced
numbers_none l at xs = put_nothing l at

-- and one more.
pub numbers_more :
    {l : List ℕ} {at : ℕ} (xs : List ℕ) (i : ℕ) {mid one after : List ℕ} {next behind end : ℕ} → Putting l at (spaced (take i xs)) mid next
    → Putting mid next (32 ∷ []) one behind → Putting one behind (decimal (get_or xs i 0)) after end → i < length xs → at ≤ length l → next ≤ length mid
    → Putting l at (spaced (take (i + 1) xs)) after end
numbers_more xs i p q r h inside room = rw (spaced_more xs i h) (put_then p (put_then q r room) inside)
