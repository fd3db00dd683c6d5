-- Laws of outcomes: what is given was not refused, and a refusal has its number.
use Prim.Native.Nat.{ℕ, zero, suc, ◌<◌}
use mathlib.Core.Path.{◌≡◌, refl, ap}
use native.Mathlib.Omega.{arith}
use Rattle.definitions.specs.Bytes.{Outcome, refusal, gives, outcome, refusalOf}

-- What is given, whatever stands for a refusal.
given-or {ℓ} : {A : Type ℓ} → A → Outcome A → A
given-or d (refusal k) = d
given-or d (gives x) = x

pub outcome-none {ℓ} : {A : Type ℓ} (k : ℕ) (x : A) → k ≡ 0 → outcome k x ≡ gives x
unfolding outcome
outcome-none k x e = rw e refl

pub outcome-some {ℓ} : {A : Type ℓ} (k : ℕ) (x : A) → (k ≡ 0 → ⊥) → outcome k x ≡ refusal k
unfolding outcome
outcome-some zero x h = absurd (h refl)
outcome-some (suc k) x h = refl

pub outcome-gives {ℓ} : {A : Type ℓ} (k : ℕ) (x y : A) → outcome k x ≡ gives y → (k ≡ 0) × (x ≡ y)
unfolding outcome given-or
outcome-gives zero x y e = (refl, ap (given-or x) e)
outcome-gives (suc k) x y e = let z : ◌≡◌ {A = ℕ} 0 1 = cc in absurd (omega arith)

pub outcome_refusal {ℓ} : {A : Type ℓ} (k : ℕ) (x : A) (j : ℕ) → outcome k x ≡ refusal j → (k ≡ j) × (0 < j)
unfolding outcome refusalOf
outcome_refusal zero x j e = let z : ◌≡◌ {A = ℕ} 0 1 = cc in absurd (omega arith)
outcome_refusal (suc k) x j e = let same : suc k ≡ j = ap refusalOf e in (same, omega arith)

pub refusal-outcome {ℓ} : {A : Type ℓ} (k : ℕ) (x : A) → refusalOf (outcome k x) ≡ k
unfolding outcome refusalOf
refusal-outcome zero x = refl
refusal-outcome (suc k) x = refl
