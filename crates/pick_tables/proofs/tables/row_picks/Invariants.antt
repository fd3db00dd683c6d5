use Rattle.pick_tables.specs.Shown.{ShownRows}
use Rattle.pick_tables.proofs.tables.row_picks.Given as goal

abbrev pub invariant-loop-i : goal.invariant-loop-i
invariant-loop-i l = ShownRows l.left l.picks l.marks l.width l.i l.out
