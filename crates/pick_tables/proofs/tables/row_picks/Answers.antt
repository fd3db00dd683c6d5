use Rattle.base.proofs.Filled.{filled_none}
use Rattle.pick_tables.proofs.tables.row_picks.Goals as goal

pub loop-i-init : goal.loop-i-init
loop-i-init c = filled_none 64
