use Rattle.pick_tables.proofs.Shown.{rows_none, rows_passed, rows_column}
use Rattle.pick_tables.proofs.tables.row_arcs.Goals as goal
use Rattle.pick_tables.proofs.tables.row_arcs.Goals.{then-l-lt-STRIDE, else-l-lt-STRIDE}

pub loop-i-init : goal.loop-i-init
loop-i-init c = rows_none _

pub loop-i-preserved : goal.loop-i-preserved
loop-i-preserved c = elim c.if-l-lt-STRIDE.branch [
  | then-l-lt-STRIDE w ↦ rw w.out-is (rows_column c.loop-i.invariant w.if-l-lt-STRIDE.true w.fill_column.ensures)
  | else-l-lt-STRIDE w ↦ rw w.out-is (rows_passed c.loop-i.invariant w.if-l-lt-STRIDE.false)
]
