use Rattle.answer_reader.proofs.Passing.{stamps_at_at, stamps_at_length}
use Rattle.answer_reader.proofs.Padding.{padded_start, padded_turn, padded_end}
use mathlib.Core.Path.{◌∙◌}
use native.Mathlib.Omega.{arith}
use Rattle.answer_reader.proofs.answer.stamps_from.Goals as goal

pub loop-i-init : goal.loop-i-init
loop-i-init c = padded_start 32 _

pub loop-i-preserved : goal.loop-i-preserved
loop-i-preserved c = padded_turn c.loop-i.invariant (omega arith) (c.stamp_at.ensures.0 ∙ stamps_at_at _ _ _ (omega arith))

pub returns : goal.returns
returns c = padded_end c.loop-i.invariant (rw stamps_at_length (omega arith))
