use Rattle.std.proofs.Common.{ap, ◌∙◌}
use Rattle.definitions.specs.Bytes.{trop_field, trop_at}
use Rattle.definitions.specs.Offset.{trop_of, off}
use Rattle.definitions.proofs.Offset.{trop_off}
use Rattle.answer_reader.proofs.answer.head_at.Goals as goal

pub returns : goal.returns
unfolding trop_at
returns c = record {
  class_is = c.from.ensures ∙ c.short_at.ensures.0;
  span_is = ap trop_of (c.offset.ensures.0 ∙ ap off c.from-2.ensures) ∙ trop_off _ c.word_at.ensures.1 ∙ ap trop_field c.word_at.ensures.0;
  start_is = c.from-3.ensures ∙ c.short_at-2.ensures.0;
}
