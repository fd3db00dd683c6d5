-- Soundness by bytes: an answer that nothing refuses and that is accepted says the class and span of the problem.
use Prim.Native.Nat.{ℕ, suc, ◌≤◌}
use mathlib.Core.Path.{◌≡◌, refl, sym, ◌∙◌}
use mathlib.Core.Bool.{Bool, true, false, cond, false≢true}
use mathlib.Core.List.{List}
use native.Mathlib.Omega.{arith}
use lib.Dec.{eqb, leb}
use borrow.Author.Tests.{ne_eqb, leb-true}
use Rattle.definitions.specs.Limits.{class_optimal, class_unbounded, class_infeasible}
use Rattle.definitions.specs.Tropical.{Trop, bot, fin}
use Rattle.definitions.specs.ProblemRecord.{n_field, m_field, problem_of, meant}
use Rattle.definitions.specs.AnswerRecord.{is_blank, start_fits, span_fits, pick_count, highest_pick, answer_of, answer_refusal}
use Rattle.definitions.specs.Verdict.{Accepted, optimal, unbounded, infeasible, answer_for, strategy_of}
use Rattle.definitions.specs.Demands.{Slice, Checker, Accepts, CheckerJudges}
use Rattle.definitions.proofs.Bytes.{length_nums_at}
use Rattle.definitions.proofs.AnswerFits.{AnswerFits, answer_fits}
use Rattle.duality.specs.Picks.{NoneAbove}
use Rattle.duality.proofs.Classes.{accepted_optimal, accepted_infeasible, accepted_unbounded}
use Rattle.guarantees.specs.ClassHolds as Classes
use Rattle.guarantees.specs.ClassHolds.{ClassHolds}
use Rattle.checker.proofs.Agreeing.{fit_above}
use Rattle.checker.proofs.Accepting.{accepts_only}

-- A span of the form of classes 2 and 3 is blank.
blank_is : (x : Trop) → is_blank x ≡ true → x ≡ bot
unfolding is_blank
blank_is bot e = refl
blank_is (fin z) e = absurd (false≢true e)

span_blank : {class : ℕ} {x : Trop} → (class ≡ class_optimal → ⊥) → span_fits class x ≡ true → x ≡ bot
unfolding span_fits
span_blank {class} {x} d h = blank_is x (go (eqb class class_unbounded) (eqb class class_infeasible) (rw (ne_eqb class class_optimal d) at h))
  where
    go : (s t : Bool) → cond s (is_blank x) (cond t (is_blank x) false) ≡ true → is_blank x ≡ true
    go true t e = e
    go false true e = e
    go false false e = absurd (false≢true e)

module _ (p a : List ℕ) (none : answer_refusal a (n_field p) (m_field p) ≡ 0) where
  fits : AnswerFits a (n_field p) (m_field p)
  fits = (answer_fits a (n_field p) (m_field p)).0 none

  -- No pick is above its highest value.
  pub picks_above : (many width : ℕ) → highest_pick (answer_for p a).class (n_field p) (m_field p) ≡ many → pick_count (answer_for p a).class (n_field p) (m_field p) ≡ width
      → NoneAbove many width (strategy_of (answer_for p a).picks)
  unfolding answer_of
  picks_above many width e f = fit_above many (answer_for p a).picks width (length_nums_at _ _ _ _ ∙ f) (rw (← e) fits.form.picks_fit_lem)

  -- A start of class 1 or 3 is 0 or 1.
  start_few : start_fits (answer_for p a).class (answer_for p a).start (n_field p) ≡ leb (answer_for p a).start 1 → (answer_for p a).start ≤ 1
  unfolding answer_of
  start_few e = leb-true (answer_for p a).start 1 (sym e ∙ fits.start_fits_is)

  -- An accepted answer says the class and span.
  pub accepted_holds : Accepted (problem_of p) (answer_for p a) → ClassHolds (problem_of p) (answer_for p a).class (answer_for p a).span
  unfolding problem_of
  accepted_holds (optimal {s = s} c e h) = rw (c, e) (Classes.optimal (accepted_optimal (problem_of p) s _ (record {
    start = _;
    fits = start_few (rw c);
    table = record { picks = _; none_above = picks_above (suc (m_field p)) (suc (n_field p)) (rw c) (rw c); accepted = h };
  })))
  accepted_holds (unbounded {k = k} c e i h) = rw (c, span_blank (λ q. omega (arith, q, c)) fits.form.span_fits_is) (Classes.unbounded (accepted_unbounded (problem_of p)
      (record { at = k; second = i; table = record { picks = _; none_above = picks_above (suc (n_field p)) (suc (m_field p)) (rw c) (rw c); accepted = h } })))
  accepted_holds (infeasible c h) = rw (c, span_blank (λ q. omega (arith, q, c)) fits.form.span_fits_is) (Classes.infeasible (accepted_infeasible (problem_of p) (record {
    start = _;
    fits = start_few (rw c);
    table = record { picks = _; none_above = picks_above (suc (m_field p)) (suc (n_field p)) (rw c) (rw c); accepted = h };
  })))

-- What any checker that judges accepts, says the class and span.
pub checker_sound : (check : Checker) → CheckerJudges check → (p a : List ℕ) → Slice p → Slice a → Accepts check p a
    → ClassHolds (problem_of (meant p)) (answer_for (meant p) a).class (answer_for (meant p) a).span
checker_sound check judges p a b c t =
    let h = accepts_only check judges p a b c t in
    accepted_holds (meant p) a h.0 h.1
