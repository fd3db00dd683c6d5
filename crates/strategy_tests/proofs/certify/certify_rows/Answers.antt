use Rattle.reach.proofs.Marks.{begins_marked}
use Rattle.strategy_tests.proofs.RowStrategy.{rows_table, rows_not, rows_both}
use native.Mathlib.Omega.{arith}
use Rattle.strategy_tests.proofs.certify.certify_rows.Goals as goal

pub none_gains-requires : goal.none_gains-requires
none_gains-requires c = rw c.order_of.ensures.1 (rows_table c.args.tables.now.sized c.requires.0 c.requires.1 c.row_arcs.ensures, omega arith)

pub returns-then-rows_count : goal.returns-then-rows_count
returns-then-rows_count c = λ p z h e.
    rows_both c.args.tables.now.sized c.requires.0 c.requires.1 c.row_arcs.ensures h e
    (begins_marked c.requires.2) c.reach-marks.ensures c.rows_count.ensures c.if-rows_count.true (rw (c.order_of.ensures.0, c.order_of.ensures.1) at c.none_gains.ensures)

pub returns-else-rows_count : goal.returns-else-rows_count
returns-else-rows_count c = rw c.if-rows_count.false (λ p z h e.
    rows_not c.args.tables.now.sized c.requires.0 c.requires.1 c.row_arcs.ensures h e
    (begins_marked c.requires.2) c.reach-marks.ensures c.rows_count.ensures c.if-rows_count.false)
