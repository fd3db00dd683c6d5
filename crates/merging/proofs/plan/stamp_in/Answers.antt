use Rattle.definitions.specs.Offset.{off}
use mathlib.Core.Path.{ap, ◌∙◌}
use Rattle.merging.proofs.plan.stamp_in.Goals as goal

pub returns : goal.returns
returns c = (c.offset_32.ensures.0 ∙ ap off c.word_in.ensures.0, c.offset_32.ensures.1)
