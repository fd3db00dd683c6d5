-- Certificates of a problem and of a selection of its rows, from any start. Classes 1 and 3: the renumbered table is accepted exactly
-- when the table is and reached variables pick rows of the selection alone. Class 2: what is accepted for the problem is accepted for
-- the selection, and conversely where the rows in use are rows of the selection.
use Prim.Native.Nat.{ℕ, suc, ◌≤◌}
use mathlib.Core.Path.{◌≡◌, sym, subst, ◌∙◌}
use mathlib.Core.Logic.{◌↔◌}
use native.Mathlib.Omega.{arith}
use lib.IntN.{ℤ, pos, ◌-ℤ◌}
use Rattle.definitions.specs.Tropical.{Finite}
use Rattle.definitions.specs.Problem.{Problem, Point, Feasible}
use Rattle.definitions.specs.Certificate.{Strategy, Reachable, Leads, PicksCount, AcceptedOptimal, AcceptedInfeasible, AcceptedUnbounded}
use Rattle.definitions.specs.Selection.{selected, Choice, LeftOut, BlankLeft, renumbered, rows_renumbered}
use Rattle.definitions.proofs.Tropical.{not_finite_bot}
use Rattle.duality.specs.Picks.{NoneAbove}
use Rattle.duality.proofs.Reach.{reach_keep}
use Rattle.selection.specs.Chosen.{PicksChosen, RowsChosen}
use Rattle.selection.specs.Certificates.{SameCertificates}
use Rattle.selection.proofs.Rows.{not_left_out}
use Rattle.selection.proofs.Plans.{feasible_selected, feasible_all, value_selected, left_blank_kept}
use Rattle.selection.proofs.Picks.{cycle_all, unused_selected, counts_selected, picks_chosen, counts_all, cycle_selected, unused_all}
use Rattle.selection.proofs.RowPicks.{row_cycle_all, row_unused_selected, row_counts_selected, row_cycle_selected, row_unused_all, row_counts_all}

-- Reached variables are variables of the problem where the start is.
pub reached_inside :
    {p : Problem} {picks : Strategy} {Start : ℕ → Type 0} → ((j : ℕ) → Start j → j ≤ p.n) → {j : ℕ} → Reachable Start (Leads p picks) j → j ≤ p.n
reached_inside {p} begins r = (reach_keep (λ j. j ≤ p.n) (λ j h. (h, begins j h)) (λ j l _ a. (a, a.inside)) r).1

-- Where no reached variable picks a rule that is left out, all pick rows of the selection.
pub unpicked_chosen :
    {p : Problem} {f : ℕ → ℕ} {m' : ℕ} {picks : Strategy} {Start : ℕ → Type 0} → ((j : ℕ) → Start j → j ≤ p.n) → NoneAbove (suc p.m) (suc p.n) picks
    → ((j i : ℕ) → Reachable Start (Leads p picks) j → picks j ≡ suc i → LeftOut p f m' i → ⊥) → PicksChosen Start p f m' picks
unpicked_chosen {p} {f} {m'} begins above unpicked j i r e =
    let h : j ≤ p.n = reached_inside begins r in not_left_out p f m' i (omega (arith, above j (omega arith))) (unpicked j i r e)

module _ {Start : ℕ → Type 0} {p : Problem} {f : ℕ → ℕ} {m' : ℕ} (c : Choice p f m') where
  -- ---- class 1

  -- The table accepted for the problem is accepted for the selection, with the same span and stamps,
  pub optimal_accepted_selected :
      {s : ℤ} {x : Point} {picks : Strategy} → PicksChosen Start p f m' picks → AcceptedOptimal Start p s x picks
      → AcceptedOptimal Start (selected p f m') s x (renumbered p f m' picks)
  optimal_accepted_selected {s} {x} {picks} chosen a =
      record {
        feasible = feasible_selected c a.feasible;
        value_is = value_selected p f m' x ∙ a.value_is;
        picks_count = counts_selected c picks chosen a.picks_count;
        below_zero = λ w k. a.below_zero w (cycle_all c picks (s -ℤ pos 1) k);
      }

  -- and conversely where the plan keeps all rules.
  pub optimal_accepted_all :
      {s : ℤ} {x : Point} {picks : Strategy} → Feasible p x → AcceptedOptimal Start (selected p f m') s x (renumbered p f m' picks)
      → AcceptedOptimal Start p s x picks
  optimal_accepted_all {s} {x} {picks} h a =
      record {
        feasible = h;
        value_is = sym (value_selected p f m' x) ∙ a.value_is;
        picks_count = counts_all c picks a.picks_count;
        below_zero = λ w k. a.below_zero w (cycle_selected c picks a.picks_count (s -ℤ pos 1) k);
      }

  pub optimal_accepted_exactly :
      {s : ℤ} {x : Point} {picks : Strategy} → Feasible p x
      → AcceptedOptimal Start (selected p f m') s x (renumbered p f m' picks) ↔ (AcceptedOptimal Start p s x picks × PicksChosen Start p f m' picks)
  optimal_accepted_exactly {picks = picks} h = (λ a. (optimal_accepted_all h a, picks_chosen c picks a.picks_count), λ b. optimal_accepted_selected b.1 b.0)

  -- ---- class 3

  pub infeasible_accepted_selected :
      {picks : Strategy} → PicksChosen Start p f m' picks → AcceptedInfeasible Start p picks
      → AcceptedInfeasible Start (selected p f m') (renumbered p f m' picks)
  infeasible_accepted_selected {picks} chosen a =
      record {
        picks_count = counts_selected c picks chosen a.picks_count;
        no_objective = unused_selected c picks a.no_objective;
        below_zero = λ w k. a.below_zero w (cycle_all c picks (pos 0) k);
      }

  pub infeasible_accepted_all : {picks : Strategy} → AcceptedInfeasible Start (selected p f m') (renumbered p f m' picks) → AcceptedInfeasible Start p picks
  infeasible_accepted_all {picks} a =
      record {
        picks_count = counts_all c picks a.picks_count;
        no_objective = unused_all c picks a.picks_count a.no_objective;
        below_zero = λ w k. a.below_zero w (cycle_selected c picks a.picks_count (pos 0) k);
      }

  pub infeasible_accepted_exactly :
      {picks : Strategy}
      → AcceptedInfeasible Start (selected p f m') (renumbered p f m' picks) ↔ (AcceptedInfeasible Start p picks × PicksChosen Start p f m' picks)
  infeasible_accepted_exactly {picks} = (λ a. (infeasible_accepted_all a, picks_chosen c picks a.picks_count), λ b. infeasible_accepted_selected b.1 b.0)

  -- ---- class 2

  pub unbounded_accepted_selected : {picks : Strategy} → AcceptedUnbounded Start p picks → AcceptedUnbounded Start (selected p f m') (rows_renumbered p f m' picks)
  unbounded_accepted_selected {picks} a =
      record {
        picks_count = row_counts_selected c picks a.picks_count;
        no_objective = row_unused_selected c picks a.no_objective;
        zero_or_more = λ w k. a.zero_or_more w (row_cycle_all c picks (pos 0) k);
      }

  pub unbounded_accepted_all :
      {picks : Strategy} → RowsChosen Start p f m' picks → AcceptedUnbounded Start (selected p f m') (rows_renumbered p f m' picks)
      → AcceptedUnbounded Start p picks
  unbounded_accepted_all {picks} chosen a =
      record {
        picks_count = row_counts_all c picks chosen a.picks_count;
        no_objective = row_unused_all c picks chosen a.no_objective;
        zero_or_more = λ w k. a.zero_or_more w (row_cycle_selected c picks chosen (pos 0) k);
      }

  -- ---- rows left out whose left sides are blank

  module _ (begins : (j : ℕ) → Start j → j ≤ p.n) (blank : (i : ℕ) → LeftOut p f m' i → BlankLeft p i) where
    -- Their left coefficients are not whole numbers.
    none_finite : (i j : ℕ) → LeftOut p f m' i → j ≤ p.n → Finite (p.left i j) → ⊥
    none_finite i j o h l = not_finite_bot (subst Finite ((blank i o).left j h) l)

    -- So picks that count are of rows of the selection,
    pub blank_picks_chosen :
        (picks : Strategy) → NoneAbove (suc p.m) (suc p.n) picks → PicksCount Start p picks → PicksChosen Start p f m' picks
    blank_picks_chosen picks above counts = unpicked_chosen begins above (λ j i r e o.
        let h = counts j r in
        let d : h.row ≡ i = omega (arith, h.picked) in
        none_finite i j o (reached_inside begins r) (rw d at h.left))

    -- and the rows in use are such rows.
    pub blank_rows_chosen :
        (picks : Strategy) → NoneAbove (suc p.n) (suc p.m) picks → RowsChosen Start p f m' picks
    blank_rows_chosen picks above i j h r l =
        let k = (reach_keep (λ j. j ≤ p.n) (λ j h. (h, begins j h)) (λ j l _ a. (a, omega (arith, a.picked, above a.row (omega (arith, a.inside))))) r).1 in
        not_left_out p f m' i h (λ o. none_finite i j o k l)

    -- A table is accepted exactly when its renumbering is.
    pub same_certificates : SameCertificates Start p f m'
    same_certificates =
        record {
          least = λ s x picks above. (
            λ a. optimal_accepted_selected (blank_picks_chosen picks above a.picks_count) a,
            λ a. optimal_accepted_all (feasible_all (left_blank_kept blank) a.feasible) a,
          );
          bottomless = λ picks above. (unbounded_accepted_selected, unbounded_accepted_all (blank_rows_chosen picks above));
          none = λ picks above. (
            λ a. infeasible_accepted_selected (blank_picks_chosen picks above a.picks_count) a,
            infeasible_accepted_all,
          );
        }
