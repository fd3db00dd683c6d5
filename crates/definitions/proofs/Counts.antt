-- Plans that count (document 02, 2.4): those with a whole minute at a moment of the second list. A plan with a whole span counts, and
-- a problem without a least span and not bottomless has no plan that keeps the rules and counts.
use Prim.Native.Nat.{ℕ, suc, ◌≤◌, ◌<◌}
use mathlib.Core.Path.{◌≡◌, sym, subst}
use mathlib.Core.Logic.{◌⊎◌, inl, inr, ⊎_elim}
use native.Mathlib.Omega.{arith}
use lib.IntN.{ℤ, pos, ◌-ℤ◌}
use Rattle.base.proofs.Numbers.{nat_le_or_lt}
use Rattle.definitions.specs.Tropical.{Trop, bot, fin, plus, Finite}
use Rattle.definitions.specs.Problem as Problems
use Rattle.definitions.specs.Problem.{Problem, Point, side, lowest, minus, value, Counts, Feasible, Infeasible}
use Rattle.definitions.specs.Certificate.{Second}
use Rattle.definitions.proofs.Tropical.{not_finite_bot, finite_fin, blank_or_finite, finite_above, ⊑_trans, ⊑_of_eq, plus_is, plus_parts, largest_above, largest_at}
use Rattle.definitions.proofs.Values.{≼_refl, ≼_trans, infinite_not_below, Bounded}

-- ---- at a moment of the second list

-- A variable of the second list that is finite in the point.
pub record SecondMet (p : Problem) (x : Point) : Type 0 where
  pub at : ℕ
  pub second : Second p at
  pub finite : Finite (x at)

-- A point counts exactly when there is one.
pub counts_met : {p : Problem} {x : Point} → Counts p x → SecondMet p x
unfolding side
counts_met {p} {x} c =
    let a = largest_at (λ j. plus (p.right p.m j) (x j)) (suc p.n) c.second in
    let f = plus_parts (subst Finite a.same c.second) in
    record { at = a.place; second = record { inside = omega (arith, a.inside); right = f.0 }; finite = f.1 }

pub met_counts : {p : Problem} {x : Point} {k : ℕ} → Second p k → Finite (x k) → Counts p x
unfolding side
met_counts {p} {x} {k} s f =
    let e = plus_is s.right.is f.is in
    record { second = finite_above (⊑_trans (⊑_of_eq (sym e)) (largest_above (λ j. plus (p.right p.m j) (x j)) (suc p.n) k (omega (arith, s.inside)))) }

-- Whether a variable is one of the second list is decided.
pub second_decided : (p : Problem) (j : ℕ) → Second p j ⊎ (Second p j → ⊥)
second_decided p j = ⊎_elim
    (λ (h : suc p.n ≤ j). inr (λ s. omega (arith, s.inside)))
    (λ (h : j < suc p.n). ⊎_elim (λ e. inr (λ s. not_finite_bot (subst Finite e s.right))) (λ f. inl (record { inside = omega arith; right = f })) (blank_or_finite (p.right p.m j)))
    (nat_le_or_lt (suc p.n) j)

-- ---- and its value

-- A whole difference has a whole second number,
minus_whole : {s : ℤ} (x y : Trop) → minus x y ≡ Problems.whole s → Finite y
unfolding minus
minus_whole bot y e = let z : ◌≡◌ {A = ℕ} 0 1 = cc in absurd (omega arith)
minus_whole (fin a) bot e = let z : ◌≡◌ {A = ℕ} 0 1 = cc in absurd (omega arith)
minus_whole (fin a) (fin b) e = finite_fin b

-- and one with a whole second number is at most a whole number.
minus_bounded : (x y : Trop) → Finite y → Bounded (minus x y)
unfolding minus
minus_bounded bot y f = record { bound = pos 0; below = lowest }
minus_bounded (fin a) bot f = absurd (not_finite_bot f)
minus_bounded (fin a) (fin b) f = record { bound = a -ℤ b; below = ≼_refl _ }

-- A point with a whole value counts.
pub whole_counts : {p : Problem} {x : Point} {s : ℤ} → value p x ≡ Problems.whole s → Counts p x
unfolding value
whole_counts e = record { second = minus_whole _ _ e }

-- The value of one that counts is at most some whole number,
pub counts_bounded : {p : Problem} {x : Point} → Counts p x → Bounded (value p x)
unfolding value
counts_bounded c = minus_bounded _ _ c.second

-- so where there is none, no point that keeps the rules counts.
pub none_counts : {p : Problem} {x : Point} → Infeasible p → Feasible p x → Counts p x → ⊥
none_counts {x = x} none f c = infinite_not_below (≼_trans (none x f c) (counts_bounded c).below)
