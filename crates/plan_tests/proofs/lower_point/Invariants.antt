use Rattle.plan_tests.specs.Sides.{Lowered}
use Prim.Native.Nat.{◌≤◌}
use Rattle.plan_tests.proofs.lower_point.Given as goal

abbrev pub invariant-loop-l : goal.invariant-loop-l
invariant-loop-l l = (l.l ≤ l.width) × (l.width ≤ 32) × Lowered l.stamps l.l l.x
