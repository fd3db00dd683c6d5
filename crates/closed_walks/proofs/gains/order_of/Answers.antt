use Rattle.std.proofs.Common.{arith}
use Rattle.closed_walks.proofs.Order.{order_next}
use Rattle.closed_walks.proofs.gains.order_of.Goals as goal

pub loop-j-preserved : goal.loop-j-preserved
loop-j-preserved c = (omega arith, omega arith, order_next c.loop-j.invariant.2 (omega arith) c.from-count.ensures)
