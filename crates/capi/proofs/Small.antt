-- The numbers fit 64 bits: few trials, a small class and span, a short record.
use Prim.Native.Nat.{ℕ, ◌+◌, ◌≤◌, ◌<◌}
use mathlib.Core.Path.{◌≡◌, refl, ap, ◌∙◌}
use mathlib.Core.Bool.{true}
use mathlib.Core.List.{List}
use Rattle.std.specs.Prelude.{Result}
use mathlib.Core.Logic.{⊎_elim}
use native.Mathlib.Omega.{arith}
use native.Mathlib.Nat.{mul-le-mul_right}
use lib.ListN.{length}
use Rattle.definitions.specs.Limits.{span_limit, signed_half, most_trials, most_questions}
use Rattle.definitions.specs.Offset.{trop_of}
use Rattle.definitions.specs.Bytes.{blank_or_within}
use Rattle.definitions.specs.ProblemRecord.{problem_refusal, kind_field, n_field, m_field, count_field, questions_asked}
use Rattle.definitions.specs.AnswerRecord.{Answer, answer_of, answer_size, writer_refusal, writer_outcome, class_field}
use Rattle.definitions.specs.Verdict as Verdicts
use Rattle.definitions.specs.Verdict.{check_refusal, answer_for, Judged}
use Rattle.definitions.specs.Solved.{Solves}
use Rattle.definitions.proofs.Offset.{within_iff}
use Rattle.definitions.proofs.Refusals.{or_else_none}
use Rattle.definitions.proofs.AnswerFits.{answer_fits, writer_fits}
use Rattle.definitions.proofs.Solved.{asked_few}
use Rattle.definitions.proofs.RoundTrip.{class_most, span_within, size_most}
use Rattle.duality.proofs.SmallLeads.{trials_few, turn_few}
use Rattle.records.specs.declared.refusal.Refusal.{Refusal}
use Rattle.records.proofs.Refusing.{was_ok}
use Rattle.answer_writer.specs.AnswerWriting.{AnswerWritten, written_of}
use Rattle.engine.specs.declared.solve.Solution.{Solution}
use Rattle.engine.specs.Outcome.{solved_of}
use Rattle.engine.proofs.Outcomes.{own_wrote, own_wrote_all}
use Rattle.checker.specs.declared.check.Certified.{Certified}
use Rattle.checker.specs.Outcome.{verdict_of}
use Rattle.capi.specs.Numbers.{Small, FewTrials, SmallFields, WritesAs, written_number, low_byte, low_half}

pub few_trials : {p before after : List ℕ} {r : Result Solution Refusal} → Solves p before (solved_of r) after → FewTrials r
few_trials {p} h = record {
  few = λ e. let w = own_wrote h e in trials_few p w.within w.answers.found;
  all_few = λ e.
      let w = own_wrote_all h e in
      let asked : questions_asked (kind_field p) (count_field p) ≡ count_field p = rw w.kind_is refl in
      let count = mul-le-mul_right {m = count_field p} {n = most_questions} most_trials (rw asked at (asked_few p w.within)) in
      omega (arith, turn_few w.kind_is w.within w.in_turn (omega arith), count);
}

-- An accepted answer has the form of its class.
small_answer : (p a : List ℕ) → check_refusal p a ≡ 0 → (class span : ℕ) → (answer_for p a).class ≡ class → (answer_for p a).span ≡ trop_of span → (class < low_byte) × (span < low_half)
unfolding check_refusal answer_of
small_answer p a e class span c s =
    let f = (answer_fits a (n_field p) (m_field p)).0 ((or_else_none (problem_refusal p) _).0 e).1 in
    let near : blank_or_within span_limit (trop_of span) ≡ true = rw (← s) (span_within _ _ f.form.span_fits_is) in (
      omega (arith, class_most (class_field a) f.class_known, c),
      ⊎_elim (λ (z : span ≡ 0). omega arith) (λ (b : (signed_half ≤ span + span_limit) × (span ≤ signed_half + span_limit)). omega arith) ((within_iff span_limit span (omega arith)).0 near),
    )

accepted_small : (p a : List ℕ) {v : Verdicts.Verdict} → Judged p a v → (class span : ℕ) → v ≡ Verdicts.accepted class (trop_of span) → (class < low_byte) × (span < low_half)
accepted_small p a (Verdicts.turned_away e) class span f = absurd (let z : ◌≡◌ {A = ℕ} 0 1 = cc in omega arith)
accepted_small p a (Verdicts.certified e g) class span f =
    let c : (answer_for p a).class ≡ class = cc in
    let s : (answer_for p a).span ≡ trop_of span = cc in
    small_answer p a e class span c s
accepted_small p a (Verdicts.uncertified e g) class span f = absurd (let z : ◌≡◌ {A = ℕ} 0 1 = cc in omega arith)

pub small_fields : {p a : List ℕ} {v : Result Certified Refusal} → Judged p a (verdict_of v) → SmallFields v
small_fields {p} {a} j = record {
  class_small = λ e. (accepted_small p a j _ _ (ap verdict_of e)).0;
  span_small = λ e. (accepted_small p a j _ _ (ap verdict_of e)).1;
}

pub small_record : (a : Answer) (n m : ℕ) {r : Result ℕ Refusal} (before after : List ℕ) → AnswerWritten a n m r before after → Small r
unfolding writer_outcome
small_record a n m before after w = record {
  small = λ {k = size} e.
      let h = was_ok (λ k. k) (writer_refusal a n m (length before)) (answer_size a.class n m) w.answered e in
      let f = (writer_fits a n m (length before)).0 h.0 in
      omega (arith, h.1, size_most a.class n m f.n_most f.m_most);
}

pub writes_as : (a : Answer) (n m : ℕ) {r : Result ℕ Refusal} (before after : List ℕ) {number : ℕ} → AnswerWritten a n m r before after → number ≡ written_number (written_of r) → WritesAs a n m number before after
writes_as a n m before after w e = record { number_is = e ∙ ap written_number w.answered; buffer = w.buffer }
