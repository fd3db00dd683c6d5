use Rattle.strategy_tests.proofs.Seconds.{second_decides}
use Rattle.strategy_tests.proofs.starts.in_second.Goals as goal

pub returns : goal.returns
returns c = rw c.right.ensures (second_decides c.args.rows.now.laid _ c.requires)
