use Rattle.std.proofs.Common.{arith}
use Rattle.closed_walks.proofs.ArcTables.{rows_none}
use Rattle.closed_walks.proofs.arcs.row_arcs.Goals as goal

pub loop-i-init : goal.loop-i-init
loop-i-init c = (omega arith, omega arith, rows_none _ _ _ _ _ _ _ c.clear_arcs.ensures.0 c.clear_arcs.ensures.1)
