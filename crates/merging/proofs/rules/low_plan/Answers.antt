use Rattle.base.proofs.Filled.{filled_none}
use Rattle.merging.proofs.rules.low_plan.Goals as goal

pub loop-j-init : goal.loop-j-init
loop-j-init c = filled_none 32
