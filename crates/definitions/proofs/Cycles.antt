-- Facts that pin what a cycle is, what it uses and where it is reached from: it has an arc, it goes round once, in class 2 none may use
-- the objective, whatever it weighs, and from a start without variables there is none.
use Prim.Native.Nat.{ℕ, ◌≤◌}
use mathlib.Core.Path.{◌≡◌, refl, sym, ◌∙◌}
use mathlib.Core.Logic.{inl}
use native.Mathlib.Omega.{arith}
use lib.IntN.{ℤ, pos, +ℤ_idr}
use Rattle.definitions.specs.Tropical.{fin}
use Rattle.definitions.specs.Problem.{Problem}
use Rattle.definitions.specs.Certificate.{Strategy, Reachable, start, onward, Anchor, Walk, stop, step, Uses, Distinct, Cycle, raise, AcceptedInfeasible, AcceptedUnbounded}

-- ---- at least one arc

first_arc : {A : ℕ → ℕ → ℤ → Type 0} {j k n : ℕ} {w : ℤ} → ((j l : ℕ) (v : ℤ) → A j l v → ⊥) → 1 ≤ n → Walk A j k n w → ⊥
first_arc none h stop = omega arith
first_arc none h (step {j = j} {l = l} {w = w} a p) = none j l w a

-- Where there are no arcs, there is no cycle.
pub no_arcs_no_cycle : {Start : ℕ → Type 0} {L : ℕ → ℕ → Type 0} {A : ℕ → ℕ → ℤ → Type 0}
    → ((j l : ℕ) (v : ℤ) → A j l v → ⊥) → (w : ℤ) → Cycle Start L A w → ⊥
no_arcs_no_cycle none w c = first_arc none (omega arith) c.walk

-- ---- through distinct variables

-- The one arc from variable 0 to itself, of weight v.
pub record Loop (v : ℤ) (j l : ℕ) (w : ℤ) : Type 0 where
  pub from : j ≡ 0
  pub to : l ≡ 0
  pub weighs : w ≡ v

loop_once : (v : ℤ) {j k n : ℕ} {w : ℤ} → 1 ≤ n → (p : Walk (Loop v) j k n w) → Distinct p → w ≡ v
unfolding Uses Distinct
loop_once v h stop d = absurd (omega arith)
loop_once v h (step {w = w} a stop) d = +ℤ_idr w ∙ a.weighs
loop_once v h (step a (step b p)) d = absurd (d.0 (inl (b.from ∙ sym a.from)))

-- Along it a cycle goes round once, so that none weighs 2v.
pub round_once : {Start : ℕ → Type 0} {L : ℕ → ℕ → Type 0} (v w : ℤ) → Cycle Start L (Loop v) w → w ≡ v
round_once v w c = loop_once v (omega arith) c.walk c.distinct

-- ---- the objective

-- No inequality, and the same coefficient on both sides of the objective: every value is 0.
unfoldable pub level : Problem
level = record { n = 0; m = 0; left = λ i j. fin (pos 0); right = λ i j. fin (pos 0) }

-- Class 2 does not accept the one row's only pick: the cycle weighs 0, and it uses the objective.
pub not_unbounded_level : AcceptedUnbounded Anchor level (λ i. 1) → ⊥
unfolding level raise Uses Distinct
not_unbounded_level c = c.no_objective (pos 0) (record {
  at = 0;
  arcs = 0;
  reachable = start refl;
  walk = step {l = 0} {w = pos 0} {v = pos 0} (record { row = 0; inside = omega arith; picked = refl; by = record { a = pos 0; b = pos 0; left_is = refl; right_is = refl; weighs = refl } }) stop;
  distinct = (λ f. f, tt);
}) (inl refl)

-- ---- the start

-- A start without variables reaches nothing,
pub nothing_reached : {L : ℕ → ℕ → Type 0} {j : ℕ} → Reachable (λ _. ⊥) L j → ⊥
nothing_reached (start e) = e
nothing_reached (onward r a) = nothing_reached r

-- so that from there class 3 accepts every table, and class 2 does.
pub infeasible_from_none : (p : Problem) (picks : Strategy) → AcceptedInfeasible (λ _. ⊥) p picks
infeasible_from_none p picks = record {
  picks_count = λ j r. absurd (nothing_reached r);
  no_objective = λ w c u. nothing_reached c.reachable;
  below_zero = λ w c. absurd (nothing_reached c.reachable);
}

pub unbounded_from_none : (p : Problem) (picks : Strategy) → AcceptedUnbounded (λ _. ⊥) p picks
unbounded_from_none p picks = record {
  picks_count = λ i j h r l. absurd (nothing_reached r);
  no_objective = λ w c u. nothing_reached c.reachable;
  zero_or_more = λ w c. absurd (nothing_reached c.reachable);
}
