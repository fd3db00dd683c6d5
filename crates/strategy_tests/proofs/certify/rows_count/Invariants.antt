use Prim.Native.Nat.{◌+◌}
use Rattle.strategy_tests.specs.Counts.{RowsCount}
use Rattle.strategy_tests.proofs.certify.rows_count.Given as goal

abbrev pub invariant-loop-i : goal.invariant-loop-i
invariant-loop-i l = RowsCount l.tables.left.now l.tables.right.now l.picks l.marks (l.tables.n + 1) l.i
