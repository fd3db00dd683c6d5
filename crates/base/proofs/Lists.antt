-- Laws of parts of lists.
use Prim.Native.Nat.{ℕ, suc, ◌-◌, ◌≤◌, ◌<◌}
use mathlib.Core.Path.{◌≡◌, refl, sym, ap₂, ◌∙◌}
use mathlib.Core.Logic.{⊎_elim}
use mathlib.Core.List.{List, [], ◌∷◌}
use native.Mathlib.Omega.{arith}
use lib.ListN.{length, get_or, take, drop, length-drop}
use lib.Seq.{take_all}
use Rattle.base.specs.Filled.{Filled}
use Rattle.base.proofs.Numbers.{nat_le_or_lt}

-- The part from a place to the end.
pub rest_whole : (s : List ℕ) (at : ℕ) → take (length s - at) (drop at s) ≡ drop at s
rest_whole s at = take_all (length s - at) (drop at s) (omega (arith, length-drop at s))

-- Lists with the same entries are the same.
pub lists_same : (l r : List ℕ) → length l ≡ length r → ((k : ℕ) → k < length l → get_or l k 0 ≡ get_or r k 0) → l ≡ r
lists_same [] [] e h = refl
lists_same [] (v ∷ r) e h = absurd (omega arith)
lists_same (u ∷ l) [] e h = absurd (omega arith)
lists_same (u ∷ l) (v ∷ r) e h = ap₂ ◌∷◌ (h 0 (omega arith)) (lists_same l r (omega arith) (λ k b. h (suc k) (omega arith)))

-- A list that was copied place by place.
pub copied_whole : {l out : List ℕ} {size n : ℕ} → Filled (λ k v. v ≡ get_or l k 0) size n out → size ≤ n → length l ≡ size → out ≡ l
copied_whole {l} {out} f h e = lists_same out l (f.size_is ∙ sym e) (λ k b. f.each k (omega (arith, f.size_is)))

-- Two arrays that were filled by what has one value are one.
pub filled_one : {P Q : ℕ → ℕ → Type 0} {size n : ℕ} {xs ys : List ℕ} → ((k v w : ℕ) → k < n → P k v → Q k w → v ≡ w) → Filled P size n xs → Filled Q size n ys → xs ≡ ys
filled_one {n = n} {xs} {ys} one f g = lists_same xs ys (f.size_is ∙ sym g.size_is) (λ k _. ⊎_elim
    (λ (h : n ≤ k). f.rest k h ∙ sym (g.rest k h))
    (λ (h : k < n). one k _ _ h (f.each k h) (g.each k h))
    (nat_le_or_lt n k))
