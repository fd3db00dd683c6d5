use Rattle.std.proofs.Common.{arith}
use Rattle.base.proofs.Filled.{filled_none, filled_more, filled_end}
use Rattle.problem_records.proofs.reader.row_of.Goals as goal

pub loop-j-init : goal.loop-j-init
loop-j-init c = filled_none 32

pub loop-j-preserved : goal.loop-j-preserved
loop-j-preserved c = filled_more c.loop-j.invariant (omega arith) c.lead_in.ensures.0

pub returns : goal.returns
returns c = search filled_end
