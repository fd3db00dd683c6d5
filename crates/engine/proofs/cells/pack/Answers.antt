use native.Mathlib.Omega.{arith}
use Rattle.base.proofs.Filled.{filled_none, filled_more, filled_end}
use Rattle.engine.proofs.cells.pack.Goals as goal

pub loop-j-init : goal.loop-j-init
loop-j-init c = filled_none 32

pub loop-j-preserved : goal.loop-j-preserved
loop-j-preserved c = search (filled_more, arith)

pub returns : goal.returns
returns c = search filled_end
