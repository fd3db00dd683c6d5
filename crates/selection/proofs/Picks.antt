-- Classes 1 and 3, from any start: a strategy of variables and the same strategy renumbered. The arcs of the selection are arcs of the
-- problem. The arcs of the problem are arcs of the selection as far as variables pick its rows; they do where the renumbered picks count.
use Prim.Native.Nat.{ℕ, suc}
use mathlib.Core.Path.{◌≡◌, ap, sym, subst, ◌∙◌}
use native.Mathlib.Omega.{arith}
use lib.IntN.{ℤ, pos}
use Rattle.definitions.specs.Tropical.{Finite}
use Rattle.definitions.specs.Problem.{Problem}
use Rattle.definitions.specs.Certificate.{Strategy, Reachable, start, onward, Cycle, ArcBy, Leads, Arc, HasPick, PicksCount, ObjectiveUnused}
use Rattle.definitions.specs.Selection.{row_of, selected, Choice, renumbered}
use Rattle.definitions.proofs.Selection.{row_objective}
use Rattle.duality.proofs.Reach.{reach_keep, reach_map}
use Rattle.duality.proofs.CycleMaps.{cycle_keep, unused_keep}
use Rattle.selection.specs.Chosen.{Chosen, PicksChosen}
use Rattle.selection.proofs.Rows.{row_last, by_all, by_selected, renumber_back, renumber_on}

module _ {p : Problem} {f : ℕ → ℕ} {m' : ℕ} (c : Choice p f m') (picks : Strategy) where
  -- The selection, and the strategy renumbered.
  abbrev q : Problem
  q = selected p f m'

  abbrev picks' : Strategy
  picks' = renumbered p f m' picks

  -- ---- from the selection to the problem

  lead_all : (j l : ℕ) → Leads q picks' j l → Leads p picks j l
  lead_all j l a =
      let r = renumber_back p f m' (picks j) a.row a.picked in
      record { row = row_of p f m' a.row; picked = r.1; inside = a.inside; right = a.right }

  arc_all : (t : ℤ) (j l : ℕ) (w : ℤ) → Arc q picks' t j l w → Arc p picks t j l w
  arc_all t j l w a =
      let r = renumber_back p f m' (picks j) a.row a.picked in
      record { row = row_of p f m' a.row; picked = r.1; inside = a.inside; by = by_all c r.0 a.by }

  pick_all : (j : ℕ) → HasPick q picks' j → HasPick p picks j
  pick_all j a =
      let r = renumber_back p f m' (picks j) a.row a.picked in
      record { row = row_of p f m' a.row; picked = r.1; left = a.left }

  -- ---- from the problem to the selection, at a variable that picks a row of it

  module _ (j : ℕ) (chosen : (i : ℕ) → picks j ≡ suc i → Chosen p f m' i) where
    lead_selected : (l : ℕ) → Leads p picks j l → Leads q picks' j l
    lead_selected l a =
        let r = renumber_on p f m' (picks j) a.row a.picked (chosen a.row a.picked) in
        record { row = r.0.place; picked = r.1; inside = a.inside; right = subst (λ (i : ℕ). Finite (p.right i l)) (sym r.0.is) a.right }

    arc_selected : (t : ℤ) (l : ℕ) (w : ℤ) → Arc p picks t j l w → Arc q picks' t j l w
    arc_selected t l w a =
        let r = renumber_on p f m' (picks j) a.row a.picked (chosen a.row a.picked) in
        record {
          row = r.0.place;
          picked = r.1;
          inside = a.inside;
          by = by_selected c r.0.inside (subst (λ (i : ℕ). ArcBy p t i j l w) (sym r.0.is) a.by);
        }

    -- It is by the objective only if it was.
    arc_objective : (t : ℤ) (l : ℕ) (w : ℤ) (a : Arc p picks t j l w) → a.row ≡ p.m → (arc_selected t l w a).row ≡ m'
    unfolding arc_selected
    arc_objective t l w a e =
        let r = renumber_on p f m' (picks j) a.row a.picked (chosen a.row a.picked) in
        row_last c r.0.place r.0.inside (r.0.is ∙ e)

    pick_selected : HasPick p picks j → HasPick q picks' j
    pick_selected a =
        let r = renumber_on p f m' (picks j) a.row a.picked (chosen a.row a.picked) in
        record { row = r.0.place; picked = r.1; left = subst (λ (i : ℕ). Finite (p.left i j)) (sym r.0.is) a.left }

  -- A variable whose renumbered pick counts does.
  chosen_at : (j : ℕ) → HasPick q picks' j → (i : ℕ) → picks j ≡ suc i → Chosen p f m' i
  chosen_at j a i e =
      let r = renumber_back p f m' (picks j) a.row a.picked in
      record { place = a.row; inside = r.0; is = omega arith }

  module _ {Start : ℕ → Type 0} where
    -- ---- what holds of the problem holds of the selection

    -- What is reached in the selection is reached in the problem,
    pub reached_all : {j : ℕ} → Reachable Start (Leads q picks') j → Reachable Start (Leads p picks) j
    reached_all r = reach_map (λ j h. h) lead_all r

    -- and its cycles are cycles of the problem,
    pub cycle_all : (t : ℤ) {w : ℤ} → Cycle Start (Leads q picks') (Arc q picks' t) w → Cycle Start (Leads p picks) (Arc p picks t) w
    cycle_all t k = cycle_keep (λ _. Unit) (λ j h. (h, tt)) (λ j l _ a. (lead_all j l a, tt)) (λ j l w _ a. (arc_all t j l w a, tt)) k

    -- by the objective where they are.
    pub unused_selected : ObjectiveUnused Start p picks → ObjectiveUnused Start q picks'
    unfolding arc_all
    unused_selected none =
        unused_keep (λ _. Unit) (λ j h. (h, tt)) (λ j l _ a. (lead_all j l a, tt)) (λ j l w _ a. (arc_all (pos 0) j l w a, tt))
        (λ j l w a. a.row ≡ m') (λ j l w a. a.row ≡ p.m)
        (λ j l w _ a e. ap (row_of p f m') e ∙ row_objective p f m')
        none

    -- Picks that count still do, where they are of its rows.
    pub counts_selected : PicksChosen Start p f m' picks → PicksCount Start p picks → PicksCount Start q picks'
    counts_selected chosen counts j r = let s = reached_all r in pick_selected j (λ i. chosen j i s) (counts j s)

    -- ---- what holds of the selection, whose picks count, holds of the problem

    module _ (counts : PicksCount Start q picks') where
      abbrev Reached : ℕ → Type 0
      Reached = Reachable Start (Leads q picks')

      lead_stays : (j l : ℕ) → Reached j → Leads p picks j l → Leads q picks' j l × Reached l
      lead_stays j l r a = let b = lead_selected j (chosen_at j (counts j r)) l a in (b, onward r b)

      arc_stays : (t : ℤ) (j l : ℕ) (w : ℤ) → Reached j → Arc p picks t j l w → Arc q picks' t j l w × Reached l
      arc_stays t j l w r a = (
        arc_selected j (chosen_at j (counts j r)) t l w a,
        (lead_stays j l r (record { row = a.row; picked = a.picked; inside = a.inside; right = record { whole = a.by.b; is = a.by.right_is } })).1,
      )

      -- What is reached in the problem is reached in the selection,
      pub reached_selected : {j : ℕ} → Reachable Start (Leads p picks) j → Reachable Start (Leads q picks') j
      reached_selected r = (reach_keep Reached (λ j h. (h, start h)) lead_stays r).0

      -- so that its picks are of rows of the selection,
      pub picks_chosen : PicksChosen Start p f m' picks
      picks_chosen j i r e = chosen_at j (counts j (reached_selected r)) i e

      -- and count.
      pub counts_all : PicksCount Start p picks
      counts_all j r = pick_all j (counts j (reached_selected r))

      -- Its cycles are cycles of the selection,
      pub cycle_selected : (t : ℤ) {w : ℤ} → Cycle Start (Leads p picks) (Arc p picks t) w → Cycle Start (Leads q picks') (Arc q picks' t) w
      cycle_selected t k = cycle_keep Reached (λ j h. (h, start h)) lead_stays (arc_stays t) k

      -- by the objective where they are.
      pub unused_all : ObjectiveUnused Start q picks' → ObjectiveUnused Start p picks
      unfolding arc_stays
      unused_all none =
          unused_keep Reached (λ j h. (h, start h)) lead_stays (arc_stays (pos 0))
          (λ j l w a. a.row ≡ p.m) (λ j l w a. a.row ≡ m')
          (λ j l w r a e. arc_objective j (chosen_at j (counts j r)) (pos 0) l w a e)
          none
