use Rattle.policy_iteration.specs.Steps.{Lowered}
use Rattle.policy_iteration.proofs.policy.lower_row.Given as goal

abbrev pub invariant-loop-j : goal.invariant-loop-j
invariant-loop-j l = Lowered l.left l.i l.top l.j l.initial.x l.initial.picks l.x l.picks
