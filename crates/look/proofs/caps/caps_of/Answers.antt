use Rattle.base.proofs.Filled.{filled_none}
use Rattle.look.proofs.caps.caps_of.Goals as goal

pub loop-j-init : goal.loop-j-init
loop-j-init c = filled_none 32
