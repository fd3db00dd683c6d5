use Rattle.pick_tables.specs.Shown.{InducedRows}
use Rattle.pick_tables.proofs.tables.induced.Given as goal

abbrev pub invariant-loop-i : goal.invariant-loop-i
invariant-loop-i l = InducedRows l.right l.x l.width l.i l.out
