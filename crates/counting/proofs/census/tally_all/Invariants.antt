use Rattle.counting.specs.Steps.{Headed, Tallied}
use Rattle.counting.proofs.census.tally_all.Given as goal

abbrev pub invariant-loop-number : goal.invariant-loop-number
invariant-loop-number l = Headed l.n l.m l.problem × Tallied l.n l.m l.w l.number l.tally
