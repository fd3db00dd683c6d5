use Rattle.std.proofs.Common.{arith}
use Rattle.base.proofs.Numbers.{most_first, most_second}
use Rattle.definitions.specs.Offset.{off}
use Rattle.records.proofs.offset.later.Goals as goal

pub returns-then-offset_32 : goal.returns-then-offset_32
returns-then-offset_32 c = (most_second (off c.args.a) (off c.args.b) (omega (arith, c.if-offset_32.true)), omega arith)

pub returns-else-offset_32 : goal.returns-else-offset_32
returns-else-offset_32 c = (most_first (off c.args.a) (off c.args.b) (omega (arith, c.if-offset_32.false)), omega arith)
