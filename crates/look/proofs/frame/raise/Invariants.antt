use Rattle.look.specs.Frames.{Raised}
use Rattle.look.proofs.frame.raise.Given as goal

abbrev pub invariant-loop-l : goal.invariant-loop-l
invariant-loop-l l = Raised l.fn.table l.row l.t l.l l.table
