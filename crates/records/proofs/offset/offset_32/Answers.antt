use Rattle.definitions.specs.Offset.{off}
use Rattle.std.proofs.Common.{arith}
use Rattle.records.proofs.offset.offset_32.Goals as goal

pub returns-then-w-lt-OFFSET_32 : goal.returns-then-w-lt-OFFSET_32
unfolding off
returns-then-w-lt-OFFSET_32 c = (omega arith, omega arith)

pub returns-else-w-lt-OFFSET_32 : goal.returns-else-w-lt-OFFSET_32
unfolding off
returns-else-w-lt-OFFSET_32 c = (omega arith, omega arith)
