use Rattle.closed_walks.proofs.Holding.{laid_holds, laid_sized}
use Rattle.reach.proofs.Marks.{begins_marked}
use Rattle.strategy_tests.proofs.Variables.{variables_table, variables_not, variables_both}
use native.Mathlib.Omega.{arith}
use Rattle.strategy_tests.proofs.certify.certify_variables.Goals as goal

pub none_gains-requires : goal.none_gains-requires
none_gains-requires c = rw c.order_of-order.ensures.1 (variables_table (laid_sized c.args.rows.now.laid) c.requires.0 c.requires.1 c.variable_arcs.ensures, omega arith)

pub returns-then-variables_count : goal.returns-then-variables_count
returns-then-variables_count c = let laid = c.args.rows.now.laid in λ z e.
    variables_both (laid_sized laid) c.requires.0 c.requires.1 c.variable_arcs.ensures (laid_holds laid) e
    (begins_marked c.requires.2) c.reach-marks.ensures (rw (c.order_of-order.ensures.0, c.order_of-order.ensures.1) at c.variables_count.ensures) c.if-variables_count.true (rw (c.order_of-order.ensures.0, c.order_of-order.ensures.1) at c.none_gains.ensures)

pub returns-else-variables_count : goal.returns-else-variables_count
returns-else-variables_count c = let laid = c.args.rows.now.laid in rw c.if-variables_count.false (λ z e.
    variables_not (laid_sized laid) c.requires.0 c.requires.1 c.variable_arcs.ensures (laid_holds laid) e
    (begins_marked c.requires.2) c.reach-marks.ensures (rw (c.order_of-order.ensures.0, c.order_of-order.ensures.1) at c.variables_count.ensures) c.if-variables_count.false)
