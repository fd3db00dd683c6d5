-- Class 2, from any start: a strategy of rows, and the same without the picks of rows left out. The arcs of the selection are arcs of the
-- problem. The arcs of the problem are arcs of the selection where the rows in use are its rows.
use Prim.Native.Nat.{ℕ}
use mathlib.Core.Path.{◌≡◌, ap, sym, subst, ◌∙◌}
use lib.IntN.{ℤ, pos}
use Rattle.definitions.specs.Tropical.{Finite}
use Rattle.definitions.specs.Problem.{Problem}
use Rattle.definitions.specs.Certificate.{Strategy, Reachable, start, onward, Cycle, ArcBy, RowLeads, RowArc, RowHasPick, RowPicksCount, ObjectiveUnusedByRows}
use Rattle.definitions.specs.Selection.{row_of, selected, Choice, rows_renumbered}
use Rattle.definitions.proofs.Selection.{row_objective}
use Rattle.duality.proofs.Reach.{reach_keep, reach_map}
use Rattle.duality.proofs.CycleMaps.{cycle_keep, unused_keep}
use Rattle.selection.specs.Chosen.{Chosen, RowsChosen}
use Rattle.selection.proofs.Rows.{row_inside, row_last, by_all, by_selected}

module _ {p : Problem} {f : ℕ → ℕ} {m' : ℕ} (c : Choice p f m') (picks : Strategy) where
  -- The selection, and the strategy of its rows.
  abbrev q : Problem
  q = selected p f m'

  abbrev picks' : Strategy
  picks' = rows_renumbered p f m' picks

  -- ---- from the selection to the problem

  row_lead_all : (j l : ℕ) → RowLeads q picks' j l → RowLeads p picks j l
  row_lead_all j l a = record { row = row_of p f m' a.row; inside = row_inside c a.row a.inside; left = a.left; picked = a.picked }

  row_arc_all : (t : ℤ) (j l : ℕ) (w : ℤ) → RowArc q picks' t j l w → RowArc p picks t j l w
  row_arc_all t j l w a =
      record { row = row_of p f m' a.row; inside = row_inside c a.row a.inside; picked = a.picked; by = by_all c a.inside a.by }

  -- ---- from the problem to the selection, by a row of it

  row_lead_selected : (j l : ℕ) (a : RowLeads p picks j l) → Chosen p f m' a.row → RowLeads q picks' j l
  row_lead_selected j l a r =
      record {
        row = r.place;
        inside = r.inside;
        left = subst (λ (i : ℕ). Finite (p.left i j)) (sym r.is) a.left;
        picked = ap picks r.is ∙ a.picked;
      }

  row_arc_selected : (t : ℤ) (j l : ℕ) (w : ℤ) (a : RowArc p picks t j l w) → Chosen p f m' a.row → RowArc q picks' t j l w
  row_arc_selected t j l w a r =
      record {
        row = r.place;
        inside = r.inside;
        picked = ap picks r.is ∙ a.picked;
        by = by_selected c r.inside (subst (λ (i : ℕ). ArcBy p t i j l w) (sym r.is) a.by);
      }

  module _ {Start : ℕ → Type 0} where
    -- ---- what holds of the problem holds of the selection

    -- What is reached in the selection is reached in the problem,
    pub row_reached_all : {j : ℕ} → Reachable Start (RowLeads q picks') j → Reachable Start (RowLeads p picks) j
    row_reached_all r = reach_map (λ j h. h) row_lead_all r

    -- and its cycles are cycles of the problem,
    pub row_cycle_all : (t : ℤ) {w : ℤ} → Cycle Start (RowLeads q picks') (RowArc q picks' t) w → Cycle Start (RowLeads p picks) (RowArc p picks t) w
    row_cycle_all t k = cycle_keep (λ _. Unit) (λ j h. (h, tt)) (λ j l _ a. (row_lead_all j l a, tt)) (λ j l w _ a. (row_arc_all t j l w a, tt)) k

    -- by the objective where they are.
    pub row_unused_selected : ObjectiveUnusedByRows Start p picks → ObjectiveUnusedByRows Start q picks'
    unfolding row_arc_all
    row_unused_selected none =
        unused_keep (λ _. Unit) (λ j h. (h, tt)) (λ j l _ a. (row_lead_all j l a, tt)) (λ j l w _ a. (row_arc_all (pos 0) j l w a, tt))
        (λ j l w a. a.row ≡ m') (λ j l w a. a.row ≡ p.m)
        (λ j l w _ a e. ap (row_of p f m') e ∙ row_objective p f m')
        none

    -- Picks that count still do.
    pub row_counts_selected : RowPicksCount Start p picks → RowPicksCount Start q picks'
    row_counts_selected counts i j h r l =
        let k = counts (row_of p f m' i) j (row_inside c i h) (row_reached_all r) l in
        record { variable = k.variable; picked = k.picked; right = k.right }

    -- ---- what holds of the selection holds of the problem, where the rows in use are rows of the selection

    module _ (chosen : RowsChosen Start p f m' picks) where
      abbrev Reached : ℕ → Type 0
      Reached = Reachable Start (RowLeads p picks)

      row_lead_stays : (j l : ℕ) → Reached j → RowLeads p picks j l → RowLeads q picks' j l × Reached l
      row_lead_stays j l r a = (row_lead_selected j l a (chosen a.row j a.inside r a.left), onward r a)

      row_of_lem : (t : ℤ) (j l : ℕ) (w : ℤ) → Reached j → (a : RowArc p picks t j l w) → Chosen p f m' a.row
      row_of_lem t j l w r a = chosen a.row j a.inside r (record { whole = a.by.a; is = a.by.left_is })

      row_arc_stays : (t : ℤ) (j l : ℕ) (w : ℤ) → Reached j → RowArc p picks t j l w → RowArc q picks' t j l w × Reached l
      row_arc_stays t j l w r a = (
        row_arc_selected t j l w a (row_of_lem t j l w r a),
        onward r (record { row = a.row; inside = a.inside; left = record { whole = a.by.a; is = a.by.left_is }; picked = a.picked }),
      )

      -- What is reached in the problem is reached in the selection,
      pub row_reached_selected : {j : ℕ} → Reachable Start (RowLeads p picks) j → Reachable Start (RowLeads q picks') j
      row_reached_selected r = (reach_keep Reached (λ j h. (h, start h)) row_lead_stays r).0

      -- its cycles are cycles of the selection,
      pub row_cycle_selected : (t : ℤ) {w : ℤ} → Cycle Start (RowLeads p picks) (RowArc p picks t) w → Cycle Start (RowLeads q picks') (RowArc q picks' t) w
      row_cycle_selected t k = cycle_keep Reached (λ j h. (h, start h)) row_lead_stays (row_arc_stays t) k

      -- by the objective where they are,
      pub row_unused_all : ObjectiveUnusedByRows Start q picks' → ObjectiveUnusedByRows Start p picks
      unfolding row_arc_stays row_arc_selected
      row_unused_all none =
          unused_keep Reached (λ j h. (h, start h)) row_lead_stays (row_arc_stays (pos 0))
          (λ j l w a. a.row ≡ p.m) (λ j l w a. a.row ≡ m')
          (λ j l w r a e. let s = row_of_lem (pos 0) j l w r a in row_last c s.place s.inside (s.is ∙ e))
          none

      -- and picks that count in the selection count.
      pub row_counts_all : RowPicksCount Start q picks' → RowPicksCount Start p picks
      row_counts_all counts i j h r l =
          let s = chosen i j h r l in
          let k = counts s.place j s.inside (row_reached_selected r) (subst (λ (i : ℕ). Finite (p.left i j)) (sym s.is) l) in
          subst (RowHasPick p picks) s.is (record { variable = k.variable; picked = k.picked; right = k.right })
