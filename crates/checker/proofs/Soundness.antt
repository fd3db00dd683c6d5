-- Demand 3, one direction: a table that the checker accepts shows the class.
use Prim.Native.Nat.{ℕ, suc, ◌≤◌}
use mathlib.Core.Path.{◌≡◌, refl, sym, subst}
use mathlib.Core.Bool.{true}
use mathlib.Core.List.{List}
use native.Mathlib.Omega.{arith}
use lib.Dec.{leb}
use lib.ListN.{length}
use borrow.Author.Tests.{leb-true}
use lib.IntN.{ℤ}
use Rattle.definitions.specs.Limits.{answer_most, class_optimal, class_unbounded, class_infeasible}
use Rattle.definitions.specs.Tropical.{Trop, fin}
use Rattle.definitions.specs.Problem.{Problem, Point, Feasible, Counts, value, whole, ◌≼◌, Infeasible, Unbounded}
use Rattle.definitions.specs.Certificate.{Second, start_of, AnchorAnd, AcceptedOptimal, AcceptedInfeasible, AcceptedUnbounded}
use Rattle.definitions.specs.ProblemRecord.{n_field, m_field, WithinLayout, problem_of, list_of, meant}
use Rattle.definitions.specs.AnswerRecord.{start_fits, span_fits, is_blank, stamps_fit, pick_count, highest_pick, picks_fit}
use Rattle.definitions.specs.Verdict.{Accepted, optimal, unbounded, infeasible, point_of, strategy_of}
use Rattle.definitions.specs.Demands.{Slice, Checker, CheckerJudges, SomeTable, Fits, least_answer, blank_answer}
use Rattle.definitions.proofs.Tropical.{fin_injective}
use Rattle.definitions.proofs.Layouts.{problem_fits}
use Rattle.definitions.proofs.AnswerFits.{WriterFits}
use Rattle.definitions.proofs.ProblemBack.{listed-length}
use Rattle.duality.proofs.Classes.{optimal_accepted, accepted_infeasible, accepted_unbounded}
use Rattle.checker.proofs.Agreeing.{fit_above}
use Rattle.checker.proofs.Accepting.{record_accepted}

-- ---- answers of the right form

module _ (p : List ℕ) (w : WithinLayout p) where
  -- A least answer with a plan that fits and a pick table.
  pub least_fits : (x : Point) (s : ℤ) → Fits (n_field p) s x → (start : ℕ) → start_fits class_optimal start (n_field p) ≡ true → (picks : List ℕ) → length picks ≡ pick_count class_optimal (n_field p) (m_field p)
      → picks_fit (highest_pick class_optimal (n_field p) (m_field p)) picks ≡ true → WriterFits (least_answer (n_field p) s x start picks) (n_field p) (m_field p) answer_most
  least_fits x s f start k picks e h =
      let g = problem_fits p w in
      record {
        n_most = g.n_most;
        m_most = g.m_most;
        room_enough = omega arith;
        class_known = refl;
        start_fits_is = k;
        stamps_count = listed-length x (suc (n_field p));
        picks_count = e;
        form = record { span_fits_is = f.span; stamps_fit_lem = f.stamps; picks_fit_lem = h };
      }

  -- An answer of class 2 or 3 with a pick table.
  pub infeasible_fits : (start : ℕ) → start_fits class_infeasible start (n_field p) ≡ true → (picks : List ℕ) → length picks ≡ pick_count class_infeasible (n_field p) (m_field p)
      → picks_fit (highest_pick class_infeasible (n_field p) (m_field p)) picks ≡ true
      → WriterFits (blank_answer class_infeasible start picks) (n_field p) (m_field p) answer_most
  unfolding span_fits is_blank stamps_fit
  infeasible_fits start k picks e h =
      let g = problem_fits p w in
      record {
        n_most = g.n_most;
        m_most = g.m_most;
        room_enough = omega arith;
        class_known = refl;
        start_fits_is = k;
        stamps_count = refl;
        picks_count = e;
        form = record { span_fits_is = refl; stamps_fit_lem = refl; picks_fit_lem = h };
      }

  pub unbounded_fits : (start : ℕ) → start_fits class_unbounded start (n_field p) ≡ true → (picks : List ℕ) → length picks ≡ pick_count class_unbounded (n_field p) (m_field p)
      → picks_fit (highest_pick class_unbounded (n_field p) (m_field p)) picks ≡ true
      → WriterFits (blank_answer class_unbounded start picks) (n_field p) (m_field p) answer_most
  unfolding span_fits is_blank stamps_fit
  unbounded_fits start k picks e h =
      let g = problem_fits p w in
      record {
        n_most = g.n_most;
        m_most = g.m_most;
        room_enough = omega arith;
        class_known = refl;
        start_fits_is = k;
        stamps_count = refl;
        picks_count = e;
        form = record { span_fits_is = refl; stamps_fit_lem = refl; picks_fit_lem = h };
      }

-- ---- what is listed, by class

-- An accepted answer of class 1 has its span and what is listed for it.
pub accepted_least : {p : Problem} {s : ℤ} (start : ℕ) {stamps : List Trop} {picks : List ℕ}
    → Accepted p (record { class = class_optimal; span = fin s; start = start; stamps = stamps; picks = picks }) → AcceptedOptimal (start_of p start) p s (point_of stamps) (strategy_of picks)
accepted_least {p} {s} start {stamps} {picks} (optimal c e h) =
    subst (λ (z : ℤ). AcceptedOptimal (start_of p start) p z (point_of stamps) (strategy_of picks)) (sym (fin_injective e)) h
accepted_least start (unbounded c i j h) = absurd (omega (arith, c))
accepted_least start (infeasible c h) = absurd (omega (arith, c))

pub accepted_none : {p : Problem} (start : ℕ) {picks : List ℕ} → Accepted p (blank_answer class_infeasible start picks)
    → AcceptedInfeasible (start_of p start) p (strategy_of picks)
accepted_none start (optimal c e h) = absurd (omega (arith, c))
accepted_none start (unbounded c i j h) = absurd (omega (arith, c))
accepted_none start (infeasible c h) = h

-- One of class 2 names a variable of the second list.
pub record Named (p : Problem) (start : ℕ) (picks : List ℕ) : Type 0 where
  pub at : ℕ
  pub second : Second p at
  pub accepted : AcceptedUnbounded (AnchorAnd at) p (strategy_of picks)

pub accepted_bottomless : {p : Problem} (start : ℕ) {picks : List ℕ} → Accepted p (blank_answer class_unbounded start picks) → Named p start picks
accepted_bottomless start (optimal c e h) = absurd (omega (arith, c))
accepted_bottomless start (unbounded {k = k} c i j h) = record { at = k; second = j; accepted = h }
accepted_bottomless start (infeasible c h) = absurd (omega (arith, c))

-- ---- the demand

-- A start of class 1 or 3 is 0 or 1.
start_most : (start : ℕ) → leb start 1 ≡ true → start ≤ 1
start_most start e = leb-true start 1 e

module _ (check : Checker) (judges : CheckerJudges check) (p : List ℕ) (b : Slice p) (w : WithinLayout (meant p)) where
  -- A plan that is accepted with some start and table is least.
  pub least_sound : (x : Point) (s : ℤ) → Fits (n_field (meant p)) s x → SomeTable check p class_optimal (least_answer (n_field (meant p)) s x)
      → (y : Point) → Feasible (problem_of (meant p)) y → Counts (problem_of (meant p)) y → whole s ≼ value (problem_of (meant p)) y
  unfolding problem_of
  least_sound x s f t =
      let fits = least_fits (meant p) w x s f t.start t.start_fits_is t.picks t.count t.none_above in
      let a = accepted_least t.start ((record_accepted check judges p (least_answer (n_field (meant p)) s x t.start t.picks) b w fits).0 t.accepted_with) in
      (optimal_accepted (problem_of (meant p)) s (point_of (list_of x (suc (n_field (meant p))))) a.feasible a.value_is).1
      (record {
        start = t.start;
        fits = start_most t.start t.start_fits_is;
        table = record {
          picks = strategy_of t.picks;
          none_above = fit_above (suc (m_field (meant p))) t.picks (suc (n_field (meant p))) t.count t.none_above;
          accepted = a;
        };
      })

  -- Where some start with a table is accepted for none, no plan that counts has a span below plus infinity.
  pub none_sound : SomeTable check p class_infeasible (blank_answer class_infeasible) → Infeasible (problem_of (meant p))
  unfolding problem_of
  none_sound t =
      let fits = infeasible_fits (meant p) w t.start t.start_fits_is t.picks t.count t.none_above in
      let a = accepted_none t.start ((record_accepted check judges p (blank_answer class_infeasible t.start t.picks) b w fits).0 t.accepted_with) in
      accepted_infeasible (problem_of (meant p))
      (record {
        start = t.start;
        fits = start_most t.start t.start_fits_is;
        table = record {
          picks = strategy_of t.picks;
          none_above = fit_above (suc (m_field (meant p))) t.picks (suc (n_field (meant p))) t.count t.none_above;
          accepted = a;
        };
      })

  -- Where some start with a table is accepted for bottomless, spans of plans that count fall below every whole number.
  pub bottomless_sound : SomeTable check p class_unbounded (blank_answer class_unbounded) → Unbounded (problem_of (meant p))
  unfolding problem_of
  bottomless_sound t =
      let fits = unbounded_fits (meant p) w t.start t.start_fits_is t.picks t.count t.none_above in
      let a = accepted_bottomless t.start ((record_accepted check judges p (blank_answer class_unbounded t.start t.picks) b w fits).0 t.accepted_with) in
      accepted_unbounded (problem_of (meant p))
      (record {
        at = a.at;
        second = a.second;
        table = record {
          picks = strategy_of t.picks;
          none_above = fit_above (suc (n_field (meant p))) t.picks (suc (m_field (meant p))) t.count t.none_above;
          accepted = a.accepted;
        };
      })
