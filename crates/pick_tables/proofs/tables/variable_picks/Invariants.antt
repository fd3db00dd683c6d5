use Rattle.pick_tables.specs.Shown.{ShownVariables}
use Rattle.pick_tables.proofs.tables.variable_picks.Given as goal

abbrev pub invariant-loop-j : goal.invariant-loop-j
invariant-loop-j l = ShownVariables l.picks l.marks l.rows l.j l.out
