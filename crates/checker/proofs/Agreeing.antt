-- Lists that hold a point or picks: what is accepted is read within the counts alone.
use Prim.Native.Nat.{ℕ, suc, ◌≤◌, ◌<◌}
use mathlib.Core.Path.{◌≡◌, ap, sym, ◌∙◌}
use mathlib.Core.Bool.{true}
use mathlib.Core.List.{List}
use native.Mathlib.Omega.{arith}
use lib.Dec.{leb}
use lib.ListN.{length, get_or}
use lib.IntN.{ℤ, pos}
use borrow.Author.Tests.{leb-true, le-leb}
use Rattle.definitions.specs.Tropical.{Trop, bot, plus}
use Rattle.definitions.specs.Problem.{Problem, Point, Feasible, side, value}
use Rattle.definitions.specs.Certificate.{Strategy, Leads, Arc, PicksCount, BelowZero, RowLeads, RowArc, AcceptedOptimal, AcceptedInfeasible, AcceptedUnbounded}
use Rattle.definitions.specs.ProblemRecord.{list_of}
use Rattle.definitions.specs.AnswerRecord.{picks_fit}
use Rattle.definitions.specs.Verdict.{point_of, strategy_of}
use Rattle.definitions.proofs.Tropical.{largest_ext}
use Rattle.definitions.proofs.Bytes.{all_true}
use Rattle.definitions.proofs.ProblemBack.{listed-length, listed_at}
use Rattle.duality.specs.Circuits.{ObjectiveArc, RowObjectiveArc}
use Rattle.duality.specs.Picks.{NoneAbove}
use Rattle.duality.proofs.Reach.{reach_keep, reach_map, circuit_keep, circuit_map, uses_keep}
use Rattle.duality.proofs.Cycles.{cycle_circuit, below_exactly, at_least_exactly, objective_exactly, row_objective_exactly}

-- ---- f 0, …, f (k − 1) as a list

-- The point and the strategy that a list of them gives agree with it below k.
pub listed_point : (x : Point) (k j : ℕ) → j < k → x j ≡ point_of (list_of x k) j
unfolding point_of
listed_point x k j h = sym (listed_at x bot k j h)

pub listed_strategy : (picks : Strategy) (k j : ℕ) → j < k → picks j ≡ strategy_of (list_of picks k) j
unfolding strategy_of
listed_strategy picks k j h = sym (listed_at picks 0 k j h)

-- No pick above the highest: of the list, and of the strategy that it gives.
pub listed_fit : (highest : ℕ) (picks : Strategy) (k : ℕ) → NoneAbove highest k picks → picks_fit highest (list_of picks k) ≡ true
unfolding picks_fit
listed_fit highest picks k h = (all_true (λ pick. leb pick highest) 0 (list_of picks k)).1
    (λ i l. let b : i < k = rw listed-length at l in le-leb (get_or (list_of picks k) i 0) highest (rw (listed_at picks 0 k i b) (h i b)))

pub fit_above : (highest : ℕ) (picks : List ℕ) (k : ℕ) → length picks ≡ k → picks_fit highest picks ≡ true → NoneAbove highest k (strategy_of picks)
unfolding picks_fit strategy_of
fit_above highest picks k e h j l = leb-true (get_or picks j 0) highest ((all_true (λ pick. leb pick highest) 0 picks).0 h j (omega arith))

-- ---- points that agree

module _ (p : Problem) {x y : Point} (same : (j : ℕ) → j < suc p.n → x j ≡ y j) where
  side_agrees : (coefficients : ℕ → Trop) → side p.n coefficients x ≡ side p.n coefficients y
  unfolding side
  side_agrees c = largest_ext _ _ (suc p.n) (λ j h. ap (plus (c j)) (same j h))

  pub feasible_agrees : Feasible p x → Feasible p y
  feasible_agrees f = record {
    anchored = sym (same 0 (omega arith)) ∙ f.anchored;
    keeps = λ i h. rw (← side_agrees (p.left i), ← side_agrees (p.right i)) (f.keeps i h);
  }

  pub value_agrees : value p x ≡ value p y
  unfolding value
  value_agrees = rw (side_agrees (p.left p.m), side_agrees (p.right p.m))

-- ---- picks that agree

module _ {Start : ℕ → Type 0} (p : Problem) (starts : (j : ℕ) → Start j → j ≤ p.n) {a b : Strategy} (same : (j : ℕ) → j < suc p.n → a j ≡ b j) where
  begins : (j : ℕ) → Start j → Start j × (j ≤ p.n)
  begins j h = (h, starts j h)

  -- What b leads to, a leads to, and the arcs are the same.
  leads_back : (j l : ℕ) → j ≤ p.n → Leads p b j l → Leads p a j l × (l ≤ p.n)
  leads_back j l h r = (record { row = r.row; picked = same j (omega arith) ∙ r.picked; inside = r.inside; right = r.right }, r.inside)

  arc_back : (t : ℤ) (j l : ℕ) (w : ℤ) → j ≤ p.n → Arc p b t j l w → Arc p a t j l w × (l ≤ p.n)
  arc_back t j l w h r = (record { row = r.row; picked = same j (omega arith) ∙ r.picked; inside = r.inside; by = r.by }, r.inside)

  objective_back : (j l : ℕ) (w : ℤ) → j ≤ p.n → ObjectiveArc p b j l w → ObjectiveArc p a j l w × (l ≤ p.n)
  objective_back j l w h r = (record { picked = same j (omega arith) ∙ r.picked; inside = r.inside; by = r.by }, r.inside)

  pub picks_agree : PicksCount Start p a → PicksCount Start p b
  picks_agree c j r =
      let q = reach_keep (λ j. j ≤ p.n) begins leads_back r in
      let h = c j q.0 in
      record { row = h.row; picked = sym (same j (omega (arith, q.1))) ∙ h.picked; left = h.left }

  pub below_agrees : (t : ℤ) → BelowZero Start p a t → BelowZero Start p b t
  below_agrees t c w k = (below_exactly Start p a t).0 c w (circuit_keep (λ j. j ≤ p.n) begins leads_back (arc_back t) (cycle_circuit k))

  pub infeasible_agrees : AcceptedInfeasible Start p a → AcceptedInfeasible Start p b
  infeasible_agrees c = record {
    picks_count = picks_agree c.picks_count;
    no_objective = (objective_exactly Start p b).1 (λ u. (objective_exactly Start p a).0 c.no_objective (uses_keep (λ j. j ≤ p.n) begins leads_back objective_back (arc_back (pos 0)) u));
    below_zero = below_agrees (pos 0) c.below_zero;
  }

pub optimal_agrees : {Start : ℕ → Type 0} (p : Problem) (s : ℤ) (starts : (j : ℕ) → Start j → j ≤ p.n) {x y : Point} {a b : Strategy} → ((j : ℕ) → j < suc p.n → x j ≡ y j) → ((j : ℕ) → j < suc p.n → a j ≡ b j)
    → AcceptedOptimal Start p s x a → AcceptedOptimal Start p s y b
optimal_agrees p s starts e f c = record {
  feasible = feasible_agrees p e c.feasible;
  value_is = sym (value_agrees p e) ∙ c.value_is;
  picks_count = picks_agree p starts f c.picks_count;
  below_zero = below_agrees p starts f _ c.below_zero;
}

-- ---- row picks that agree

module _ (p : Problem) {a b : Strategy} (same : (i : ℕ) → i < suc p.m → a i ≡ b i) where
  row_leads_back : (j l : ℕ) → RowLeads p b j l → RowLeads p a j l
  row_leads_back j l r = record { row = r.row; inside = r.inside; left = r.left; picked = same r.row (omega (arith, r.inside)) ∙ r.picked }

  row_arc_back : (t : ℤ) (j l : ℕ) (w : ℤ) → RowArc p b t j l w → RowArc p a t j l w
  row_arc_back t j l w r = record { row = r.row; inside = r.inside; picked = same r.row (omega (arith, r.inside)) ∙ r.picked; by = r.by }

  row_objective_back : (j l : ℕ) (w : ℤ) → RowObjectiveArc p b j l w → RowObjectiveArc p a j l w
  row_objective_back j l w r = record { picked = same p.m (omega arith) ∙ r.picked; by = r.by }

  pub unbounded_agrees : {Start : ℕ → Type 0} → AcceptedUnbounded Start p a → AcceptedUnbounded Start p b
  unbounded_agrees {Start} c = record {
    picks_count = λ i j h r l.
        let q = c.picks_count i j h (reach_map (λ j e. e) row_leads_back r) l in
        record { variable = q.variable; picked = sym (same i (omega arith)) ∙ q.picked; right = q.right };
    no_objective = (row_objective_exactly Start p b).1 (λ u. (row_objective_exactly Start p a).0 c.no_objective (uses_keep {O' = RowObjectiveArc p a} {A' = RowArc p a (pos 0)} (λ _. Unit) (λ j e. (e, tt)) (λ j l _ r. (row_leads_back j l r, tt)) (λ j l w _ r. (row_objective_back j l w r, tt)) (λ j l w _ r. (row_arc_back (pos 0) j l w r, tt)) u));
    zero_or_more = λ w k. (at_least_exactly Start p a (pos 0)).0 c.zero_or_more w (circuit_map (λ j e. e) row_leads_back (row_arc_back (pos 0)) (cycle_circuit k));
  }
