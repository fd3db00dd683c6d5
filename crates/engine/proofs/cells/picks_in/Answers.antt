use native.Mathlib.Omega.{arith}
use Rattle.base.proofs.Filled.{filled_none, filled_more, filled_end}
use Rattle.engine.proofs.cells.picks_in.Goals as goal

pub loop-k-init : goal.loop-k-init
loop-k-init c = filled_none 64

pub loop-k-preserved : goal.loop-k-preserved
loop-k-preserved c = search (filled_more, arith)

pub returns : goal.returns
returns c = search filled_end
