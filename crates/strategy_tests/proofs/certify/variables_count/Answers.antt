use Rattle.base.proofs.Decides.{said_yes}
use Rattle.strategy_tests.proofs.Counting.{order_counts}
use native.Mathlib.Omega.{arith}
use Rattle.strategy_tests.proofs.certify.variables_count.Goals as goal

pub returns : goal.returns
returns c = order_counts c.args.picks.now c.args.order.now.ordered (said_yes (λ i h. c.loop-j.invariant i (omega arith)))
