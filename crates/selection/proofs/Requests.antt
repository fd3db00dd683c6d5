-- What document 02's requests ask of a selection, each in a line or two by what stands below.
use Prim.Native.Nat.{ℕ, ◌≤◌}
use lib.IntN.{ℤ}
use Rattle.definitions.specs.Problem.{Problem, Point, Optimal, Infeasible}
use Rattle.definitions.specs.Certificate.{Strategy, start_of, AcceptedOptimal, AcceptedInfeasible}
use Rattle.definitions.specs.Selection.{selected, Choice, LeftOut, BlankLeft, BlankRow, SameClass, renumbered}
use Rattle.duality.proofs.Starts.{optimal_from, infeasible_from}
use Rattle.duality.proofs.Classes.{accepted_optimal, accepted_infeasible}
use Rattle.selection.specs.Chosen.{PicksChosen}
use Rattle.selection.specs.Certificates.{SameCertificates}
use Rattle.selection.proofs.Rows.{renumber_none_above}
use Rattle.selection.proofs.Plans.{start_selected, left_blank_kept, blank_kept}
use Rattle.selection.proofs.Classes.{both_optimal, both_infeasible, infeasible_all, optimal_all, class_selected}
use Rattle.selection.proofs.Certificates.{optimal_accepted_selected, infeasible_accepted_selected, same_certificates}

module _ {p : Problem} {f : ℕ → ℕ} {m' : ℕ} (c : Choice p f m') where
  -- ---- 2.5: the problem with only the rules picked by reached moments, and the question, has the same class and span

  -- Class 1, from the answer's start.
  pub least_behind :
      {s : ℤ} {x : Point} {start : ℕ} {picks : Strategy} → start ≤ 1 → AcceptedOptimal (start_of p start) p s x picks
      → PicksChosen (start_of p start) p f m' picks → Optimal (selected p f m') s × SameClass p (selected p f m')
  least_behind {s} {x} {start} {picks} h a chosen =
      let o : Optimal (selected p f m') s = accepted_optimal (selected p f m') s x (record {
        start = start;
        fits = h;
        table = record {
          picks = renumbered p f m' picks;
          none_above = λ j h. renumber_none_above p f m' (picks j);
          accepted = optimal_from (λ j. (start_selected p f m' start j).1) (optimal_accepted_selected c chosen a);
        };
      }) in
      (o, both_optimal (optimal_all c a.feasible a.value_is o) o)

  -- Class 3.
  pub none_behind :
      {start : ℕ} {picks : Strategy} → start ≤ 1 → AcceptedInfeasible (start_of p start) p picks → PicksChosen (start_of p start) p f m' picks
      → Infeasible (selected p f m') × SameClass p (selected p f m')
  none_behind {start} {picks} h a chosen =
      let i : Infeasible (selected p f m') = accepted_infeasible (selected p f m') (record {
        start = start;
        fits = h;
        table = record {
          picks = renumbered p f m' picks;
          none_above = λ j h. renumber_none_above p f m' (picks j);
          accepted = infeasible_from (λ j. (start_selected p f m' start j).1) (infeasible_accepted_selected c chosen a);
        };
      }) in
      (i, both_infeasible (infeasible_all c i) i)

  -- ---- 2.6: with rules dropped whose left lists are all blank, class and least span are the same

  pub blank_left_dropped : ((i : ℕ) → LeftOut p f m' i → BlankLeft p i) → SameClass p (selected p f m')
  blank_left_dropped blank = class_selected c (left_blank_kept blank)

  -- ---- 2.10: class and span are those of the problem that holds only the rules in force, and so are the certificates

  pub suspended_out :
      {Start : ℕ → Type 0} → ((j : ℕ) → Start j → j ≤ p.n) → ((i : ℕ) → LeftOut p f m' i → BlankRow p i)
      → SameClass p (selected p f m') × SameCertificates Start p f m'
  suspended_out begins blank = (class_selected c (blank_kept blank), same_certificates c begins (λ i o. (blank i o).left))
