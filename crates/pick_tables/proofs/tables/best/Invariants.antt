use Rattle.pick_tables.specs.Shown.{Highest}
use Rattle.pick_tables.proofs.tables.best.Given as goal

abbrev pub invariant-loop-l : goal.invariant-loop-l
invariant-loop-l l = Highest l.right l.row l.x l.width l.l l.top l.pick
