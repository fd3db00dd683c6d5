use Rattle.std.proofs.Common.{arith}
use Rattle.definitions.specs.Offset.{off}
use Rattle.records.proofs.offset.offset.Goals as goal

pub returns : goal.returns
unfolding off
returns c = omega arith
