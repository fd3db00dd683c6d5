use Rattle.strategy_tests.proofs.Seconds.{seconds_marked}
use Rattle.strategy_tests.proofs.starts.second_marks.Goals as goal

pub returns : goal.returns
returns c = seconds_marked c.args.rows.now.laid _ _ c.right_start.ensures c.row_of-row.ensures c.marks_of.ensures
