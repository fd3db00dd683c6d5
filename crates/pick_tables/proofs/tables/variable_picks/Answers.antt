use Rattle.base.proofs.Filled.{filled_none}
use Rattle.pick_tables.proofs.tables.variable_picks.Goals as goal

pub loop-j-init : goal.loop-j-init
loop-j-init c = filled_none 64
