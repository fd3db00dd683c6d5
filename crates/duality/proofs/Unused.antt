-- Picks that play no part. What the checker lists of picks reads those of reachable variables (classes 1 and 3) or of
-- rows in use (class 2) alone: others may be changed, to 0 for example, and what was accepted still is.
use Prim.Native.Nat.{ℕ, suc, ◌≤◌}
use mathlib.Core.Path.{◌≡◌}
use native.Mathlib.Omega.{arith}
use lib.IntN.{ℤ, pos}
use Rattle.definitions.specs.Tropical.{Finite}
use Rattle.definitions.specs.Problem.{Problem, Point}
use Rattle.definitions.specs.Certificate.{Strategy, Reachable, start, onward, Leads, Arc, PicksCount, BelowZero, AcceptedOptimal, AcceptedInfeasible, RowLeads, RowArc, RowPicksCount, AcceptedUnbounded}
use Rattle.duality.specs.Circuits.{ObjectiveArc, RowObjectiveArc}
use Rattle.duality.specs.Picks.{AgreeReached, AgreeInUse}
use Rattle.duality.proofs.Reach.{reach_keep, circuit_keep, uses_keep}
use Rattle.duality.proofs.Cycles.{cycle_circuit, below_exactly, at_least_exactly, objective_exactly, row_objective_exactly}

-- ---- classes 1 and 3

module _ {Start : ℕ → Type 0} {p : Problem} {picks picks' : Strategy} (agree : AgreeReached Start p picks picks') where
  begins : (j : ℕ) → Start j → Start j × Reachable Start (Leads p picks) j
  begins j e = (e, start e)

  lead : (j l : ℕ) → Reachable Start (Leads p picks) j → Leads p picks' j l → Leads p picks j l × Reachable Start (Leads p picks) l
  lead j l r a =
      let d : picks j ≡ suc a.row = cc (agree j r) in
      let b : Leads p picks j l = record { row = a.row; picked = d; inside = a.inside; right = a.right } in
      (b, onward r b)

  arc : (t : ℤ) (j l : ℕ) (w : ℤ) → Reachable Start (Leads p picks) j → Arc p picks' t j l w
      → Arc p picks t j l w × Reachable Start (Leads p picks) l
  arc t j l w r a =
      let d : picks j ≡ suc a.row = cc (agree j r) in (
        record { row = a.row; picked = d; inside = a.inside; by = a.by },
        onward r (record { row = a.row; picked = d; inside = a.inside; right = record { whole = a.by.b; is = a.by.right_is } }),
      )

  objective : (j l : ℕ) (w : ℤ) → Reachable Start (Leads p picks) j → ObjectiveArc p picks' j l w
      → ObjectiveArc p picks j l w × Reachable Start (Leads p picks) l
  objective j l w r a =
      let d : picks j ≡ suc p.m = cc (agree j r) in (
        record { picked = d; inside = a.inside; by = a.by },
        onward r (record { row = p.m; picked = d; inside = a.inside; right = record { whole = a.by.b; is = a.by.right_is } }),
      )

  -- Picks that count still do.
  pub count_unused : PicksCount Start p picks → PicksCount Start p picks'
  count_unused count j r =
      let q = (reach_keep (Reachable Start (Leads p picks)) begins lead r).1 in
      let h = count j q in
      let d : picks' j ≡ suc h.row = cc (agree j q, h.picked) in
      record { row = h.row; picked = d; left = h.left }

  -- Cycles stay below zero.
  pub below_unused : (t : ℤ) → BelowZero Start p picks t → BelowZero Start p picks' t
  below_unused t below w c = (below_exactly Start p picks t).0 below w (circuit_keep (Reachable Start (Leads p picks)) begins lead (arc t) (cycle_circuit c))

  -- What class 1 accepted is accepted.
  pub optimal_unused : (s : ℤ) (x : Point) → AcceptedOptimal Start p s x picks → AcceptedOptimal Start p s x picks'
  optimal_unused s x c = record {
    feasible = c.feasible;
    value_is = c.value_is;
    picks_count = count_unused c.picks_count;
    below_zero = below_unused _ c.below_zero;
  }

  -- What class 3 accepted is accepted.
  pub infeasible_unused : AcceptedInfeasible Start p picks → AcceptedInfeasible Start p picks'
  infeasible_unused c = record {
    picks_count = count_unused c.picks_count;
    no_objective = (objective_exactly Start p picks').1 (λ u. (objective_exactly Start p picks).0 c.no_objective (uses_keep (Reachable Start (Leads p picks)) begins lead objective (arc (pos 0)) u));
    below_zero = below_unused _ c.below_zero;
  }

-- ---- class 2

module _ {Start : ℕ → Type 0} {p : Problem} {picks picks' : Strategy} (agree : AgreeInUse Start p picks picks') where
  row_begins : (j : ℕ) → Start j → Start j × Reachable Start (RowLeads p picks) j
  row_begins j e = (e, start e)

  row_lead : (j l : ℕ) → Reachable Start (RowLeads p picks) j → RowLeads p picks' j l
      → RowLeads p picks j l × Reachable Start (RowLeads p picks) l
  row_lead j l r a =
      let d : picks a.row ≡ suc l = cc (agree a.row j a.inside r a.left) in
      let b : RowLeads p picks j l = record { row = a.row; inside = a.inside; left = a.left; picked = d } in
      (b, onward r b)

  row_arc_lem : (t : ℤ) (j l : ℕ) (w : ℤ) → Reachable Start (RowLeads p picks) j → RowArc p picks' t j l w
      → RowArc p picks t j l w × Reachable Start (RowLeads p picks) l
  row_arc_lem t j l w r a =
      let f : Finite (p.left a.row j) = record { whole = a.by.a; is = a.by.left_is } in
      let d : picks a.row ≡ suc l = cc (agree a.row j a.inside r f) in (
        record { row = a.row; inside = a.inside; picked = d; by = a.by },
        onward r (record { row = a.row; inside = a.inside; left = f; picked = d }),
      )

  row_objective : (j l : ℕ) (w : ℤ) → Reachable Start (RowLeads p picks) j → RowObjectiveArc p picks' j l w
      → RowObjectiveArc p picks j l w × Reachable Start (RowLeads p picks) l
  row_objective j l w r a =
      let f : Finite (p.left p.m j) = record { whole = a.by.a; is = a.by.left_is } in
      let h : p.m ≤ p.m = omega arith in
      let d : picks p.m ≡ suc l = cc (agree p.m j h r f) in
      (record { picked = d; by = a.by }, onward r (record { row = p.m; inside = h; left = f; picked = d }))

  -- What class 2 accepted is accepted.
  pub unbounded_unused : AcceptedUnbounded Start p picks → AcceptedUnbounded Start p picks'
  unbounded_unused c = record {
    picks_count = count;
    no_objective = (row_objective_exactly Start p picks').1 (λ u. (row_objective_exactly Start p picks).0 c.no_objective (uses_keep (Reachable Start (RowLeads p picks)) row_begins row_lead row_objective (row_arc_lem (pos 0)) u));
    zero_or_more = λ w q. (at_least_exactly Start p picks (pos 0)).0 c.zero_or_more w (circuit_keep (Reachable Start (RowLeads p picks)) row_begins row_lead (row_arc_lem (pos 0)) (cycle_circuit q));
  }
    where
      count : RowPicksCount Start p picks'
      count i j h r f =
          let q = (reach_keep (Reachable Start (RowLeads p picks)) row_begins row_lead r).1 in
          let k = c.picks_count i j h q f in
          let d : picks' i ≡ suc k.variable = cc (agree i j h q f, k.picked) in
          record { variable = k.variable; picked = d; right = k.right }
