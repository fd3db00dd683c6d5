use Rattle.std.proofs.Common.{arith}
use Rattle.reasons.proofs.Numbers.{numbers_none, numbers_more}
use Rattle.reasons.proofs.lines.put_numbers.Goals as goal

pub loop-number-init : goal.loop-number-init
loop-number-init c = (omega arith, numbers_none _ _ c.args.numbers.now)

pub loop-number-preserved : goal.loop-number-preserved
loop-number-preserved c = let turn = c.loop-number in
    (omega arith, numbers_more c.args.numbers.now turn.number-index turn.invariant.1 c.copy-behind.ensures c.put_decimal-next.ensures.0 (omega arith) (omega arith) (omega arith))
