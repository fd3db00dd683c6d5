use Rattle.answer_reader.proofs.Passing.{picks_at_at, picks_at_length}
use Rattle.answer_reader.proofs.Padding.{padded_start, padded_turn, padded_end}
use mathlib.Core.Path.{◌∙◌}
use native.Mathlib.Omega.{arith}
use Rattle.answer_reader.proofs.answer.picks_from.Goals as goal

pub loop-i-init : goal.loop-i-init
loop-i-init c = padded_start 64 _

pub loop-i-preserved : goal.loop-i-preserved
loop-i-preserved c = padded_turn c.loop-i.invariant (omega arith) (c.pick_at.ensures.0 ∙ picks_at_at _ _ _ _ (omega arith))

pub returns : goal.returns
returns c = padded_end c.loop-i.invariant (rw picks_at_length (omega arith))
