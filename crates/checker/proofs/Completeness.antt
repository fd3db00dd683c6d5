-- Demand 3, the other direction: where the class holds, some table is accepted.
use Prim.Native.Nat.{ℕ, suc}
use mathlib.Core.Path.{◌≡◌, refl}
use mathlib.Core.Bool.{true}
use mathlib.Core.List.{List}
use native.Mathlib.Omega.{arith}
use lib.IntN.{ℤ}
use borrow.Author.Tests.{lt-ltb, le-leb}
use Rattle.definitions.specs.Limits.{class_optimal, class_unbounded, class_infeasible}
use Rattle.definitions.specs.Problem.{Point, Feasible, Counts, value, whole, ◌≼◌, Infeasible, Unbounded}
use Rattle.definitions.specs.ProblemRecord.{n_field, m_field, WithinLayout, problem_of, list_of, meant}
use Rattle.definitions.specs.AnswerRecord.{start_fits}
use Rattle.definitions.specs.Verdict.{optimal, unbounded, infeasible}
use Rattle.definitions.specs.Demands.{Slice, Checker, CheckerJudges, SomeTable, Fits, least_answer, blank_answer}
use Rattle.definitions.proofs.ProblemBack.{listed-length}
use Rattle.duality.proofs.Starts.{start_below}
use Rattle.duality.proofs.Classes.{optimal_accepted, infeasible_accepted, unbounded_accepted}
use Rattle.checker.proofs.Acceptance.{start_inside}
use Rattle.checker.proofs.Agreeing.{listed_point, listed_strategy, listed_fit, optimal_agrees, infeasible_agrees, unbounded_agrees}
use Rattle.checker.proofs.Accepting.{record_accepted}
use Rattle.checker.proofs.Soundness.{least_fits, infeasible_fits, unbounded_fits}

module _ (check : Checker) (judges : CheckerJudges check) (p : List ℕ) (b : Slice p) (w : WithinLayout (meant p)) where
  -- A least plan is accepted with some start and table.
  pub least_complete : (x : Point) (s : ℤ) → Fits (n_field (meant p)) s x → Feasible (problem_of (meant p)) x → value (problem_of (meant p)) x ≡ whole s
      → ((y : Point) → Feasible (problem_of (meant p)) y → Counts (problem_of (meant p)) y → whole s ≼ value (problem_of (meant p)) y)
      → SomeTable check p class_optimal (least_answer (n_field (meant p)) s x)
  unfolding problem_of
  least_complete x s f feasible v least =
      let c = (optimal_accepted (problem_of (meant p)) s x feasible v).0 least in
      let t = c.table in
      let starts = start_below (problem_of (meant p)) c.start in
      let picks : List ℕ = list_of t.picks (suc (n_field (meant p))) in
      let start_fits_is : start_fits class_optimal c.start (n_field (meant p)) ≡ true = le-leb c.start 1 c.fits in
      let count = listed-length t.picks (suc (n_field (meant p))) in
      let fit = listed_fit (suc (m_field (meant p))) t.picks (suc (n_field (meant p))) t.none_above in
      record {
        start = c.start;
        start_fits_is = start_fits_is;
        picks = picks;
        count = count;
        none_above = fit;
        accepted_with = (record_accepted check judges p (least_answer (n_field (meant p)) s x c.start picks) b w (least_fits (meant p) w x s f c.start start_fits_is picks count fit)).1
            (optimal refl refl (optimal_agrees (problem_of (meant p)) s (start_inside starts) (listed_point x (suc (n_field (meant p)))) (listed_strategy t.picks (suc (n_field (meant p)))) t.accepted));
      }

  -- Where no plan that counts has a span below plus infinity, some start with a table is accepted for none.
  pub none_complete : Infeasible (problem_of (meant p)) → SomeTable check p class_infeasible (blank_answer class_infeasible)
  unfolding problem_of
  none_complete h =
      let c = (infeasible_accepted (problem_of (meant p))).0 h in
      let t = c.table in
      let starts = start_below (problem_of (meant p)) c.start in
      let picks : List ℕ = list_of t.picks (suc (n_field (meant p))) in
      let start_fits_is : start_fits class_infeasible c.start (n_field (meant p)) ≡ true = le-leb c.start 1 c.fits in
      let count = listed-length t.picks (suc (n_field (meant p))) in
      let fit = listed_fit (suc (m_field (meant p))) t.picks (suc (n_field (meant p))) t.none_above in
      record {
        start = c.start;
        start_fits_is = start_fits_is;
        picks = picks;
        count = count;
        none_above = fit;
        accepted_with = (record_accepted check judges p (blank_answer class_infeasible c.start picks) b w (infeasible_fits (meant p) w c.start start_fits_is picks count fit)).1
            (infeasible refl (infeasible_agrees (problem_of (meant p)) (start_inside starts) (listed_strategy t.picks (suc (n_field (meant p)))) t.accepted));
      }

  -- Where spans of plans that count fall below every whole number, some start with a table is accepted for bottomless.
  pub bottomless_complete : Unbounded (problem_of (meant p)) → SomeTable check p class_unbounded (blank_answer class_unbounded)
  unfolding problem_of
  bottomless_complete h =
      let c = (unbounded_accepted (problem_of (meant p))).0 h in
      let t = c.table in
      let picks : List ℕ = list_of t.picks (suc (m_field (meant p))) in
      let start_fits_is : start_fits class_unbounded (suc c.at) (n_field (meant p)) ≡ true = rw (lt-ltb 0 (suc c.at) (omega arith), le-leb (suc c.at) (suc (n_field (meant p))) (omega (arith, c.second.inside))) in
      let count = listed-length t.picks (suc (m_field (meant p))) in
      let fit = listed_fit (suc (n_field (meant p))) t.picks (suc (m_field (meant p))) t.none_above in
      record {
        start = suc c.at;
        start_fits_is = start_fits_is;
        picks = picks;
        count = count;
        none_above = fit;
        accepted_with = (record_accepted check judges p (blank_answer class_unbounded (suc c.at) picks) b w (unbounded_fits (meant p) w (suc c.at) start_fits_is picks count fit)).1
            (unbounded refl refl c.second (unbounded_agrees (problem_of (meant p)) (listed_strategy t.picks (suc (m_field (meant p)))) t.accepted));
      }
