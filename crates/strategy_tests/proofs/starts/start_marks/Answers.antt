use Rattle.strategy_tests.proofs.Seconds.{start_zero, start_other}
use Rattle.strategy_tests.proofs.starts.start_marks.Goals as goal

pub returns-in-0 : goal.returns-in-0
returns-in-0 c = start_zero c.args.rows.now.laid c.in-0.is c.anchor.ensures

pub returns-in-1-to-18446744073709551615 : goal.returns-in-1-to-18446744073709551615
returns-in-1-to-18446744073709551615 c = start_other c.args.rows.now.laid _ c.in-1-to-18446744073709551615.in-1-to-18446744073709551615-own.rest.1 c.second_marks.ensures
