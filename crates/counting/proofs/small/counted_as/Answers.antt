use native.Mathlib.Omega.{arith}
use Rattle.counting.proofs.Posing.{counts_silent, counts_answered, counts_no_several}
use Rattle.counting.proofs.small.counted_as.Goals as goal

pub returns-in-Ok-One : goal.returns-in-Ok-One
returns-in-Ok-One c = counts_answered _ c.requires c.solve.ensures.solves (omega arith) (rw c.in-Ok-One.field-0-is at c.in-Ok-One.is)

pub unreachable-requires : goal.unreachable-requires
unreachable-requires c = counts_no_several _ c.requires c.solve.ensures.solves (rw c.in-Ok-All.field-0-is at c.in-Ok-All.is)

pub returns-in-Err : goal.returns-in-Err
returns-in-Err c = counts_silent _ c.requires c.solve.ensures.solves (omega arith) c.in-Err.is
