use Rattle.merging.specs.Plans.{LowPlan}
use Rattle.merging.proofs.rules.low_plan.Given as goal

abbrev pub invariant-loop-j : goal.invariant-loop-j
invariant-loop-j l = LowPlan l.stamps l.j l.x
