use Rattle.strategy_tests.specs.Counts.{Idle}
use Rattle.strategy_tests.proofs.certify.row_idle.Given as goal

abbrev pub invariant-loop-j : goal.invariant-loop-j
invariant-loop-j l = Idle l.left l.marks l.base l.j
