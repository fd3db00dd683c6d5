use Prim.Native.Nat.{◌≤◌}
use Rattle.base.specs.Decides.{Decides}
use Rattle.plan_tests.specs.Sides.{run, best_sum}
use Rattle.plan_tests.proofs.none_above_of.Given as goal

abbrev pub invariant-loop-l : goal.invariant-loop-l
invariant-loop-l l = (l.l ≤ l.count) × Decides (best_sum (run l.bytes l.at) l.x l.l ≤ l.limit) l.none
