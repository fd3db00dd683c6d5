-- A listing, one number at a time.
use Rattle.std.proofs.Common.{◌≡◌, ℕ, suc, ◌+◌, ◌≤◌, List, [], ◌∷◌, ◌++◌, length, subst, arith, length-append}
use Rattle.definitions.specs.Reasons.{Listed, no_number, with_it, without}

module _ {Has : ℕ → Type 0} where
  -- No more numbers are listed than there are.
  pub listed_few : {k : ℕ} {numbers : List ℕ} → Listed Has k numbers → length numbers ≤ k
  listed_few no_number = omega arith
  listed_few (with_it {k = k} {numbers = numbers} l h) = omega (arith, length-append numbers (suc k ∷ []), listed_few l)
  listed_few (without l d) = omega (arith, listed_few l)

  pub listed_with : {k : ℕ} {numbers : List ℕ} → Listed Has k numbers → Has (k + 1) → Listed Has (k + 1) (numbers ++ (k + 1) ∷ [])
  listed_with {k} l h = let e : k + 1 ≡ suc k = omega arith in rw e (with_it l (rw e at h))

  pub listed_without : {k : ℕ} {numbers : List ℕ} → Listed Has k numbers → (Has (k + 1) → ⊥) → Listed Has (k + 1) numbers
  listed_without {k} l d = let e : k + 1 ≡ suc k = omega arith in rw e (without l (rw e at d))

  pub listed_end : {k w : ℕ} {numbers : List ℕ} → Listed Has k numbers → k ≤ w → w ≤ k → Listed Has w numbers
  listed_end {k} {w} {numbers} l h g = let e : k ≡ w = omega arith in subst (λ (i : ℕ). Listed Has i numbers) e l
