use Rattle.std.proofs.Common.{rules}
use Rattle.definitions.specs.AnswerRecord.{form_refusal}
use Rattle.answer_reader.proofs.answer.judge_form.Goals as goal
use Rattle.answer_reader.proofs.answer.judge_form.Goals.{then-not-span_fits-via-then-not-span_fits, then-not-span_fits-via-else-not-span_fits+then-not-stamps_fit}

pub returns-then-not-span_fits : goal.returns-then-not-span_fits
unfolding form_refusal
returns-then-not-span_fits c = elim c.then-not-span_fits.branch [ then-not-span_fits-via-then-not-span_fits w ↦ search rules | then-not-span_fits-via-else-not-span_fits+then-not-stamps_fit w ↦ search rules ]

pub returns-then-not-picks_fit : goal.returns-then-not-picks_fit
unfolding form_refusal
returns-then-not-picks_fit c = search rules

pub returns : goal.returns
unfolding form_refusal
returns c = search rules
