use native.Mathlib.Omega.{arith}
use Rattle.base.proofs.Filled.{filled_none}
use Rattle.grounds.proofs.reached.pick_arcs.Goals as goal

pub loop-k-init : goal.loop-k-init
loop-k-init c = (omega arith, filled_none 1024)
