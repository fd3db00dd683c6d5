use Rattle.problem_records.specs.Tables.{left_table}
use Rattle.strategy_tests.specs.Counts.{PlacesCount}
use Rattle.strategy_tests.proofs.certify.variables_count.Given as goal

abbrev pub invariant-loop-j : goal.invariant-loop-j
invariant-loop-j l = PlacesCount (left_table l.rows.bytes.now) l.picks l.order.places l.j-index
