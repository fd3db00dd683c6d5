use Prim.Native.Nat.{◌≤◌}
use Rattle.policy_iteration.specs.Steps.{Passed}
use Rattle.policy_iteration.proofs.rows.Rows.pass.Given as goal

abbrev pub invariant-loop-i : goal.invariant-loop-i
invariant-loop-i l = (l.failed ≤ l.i) × Passed l.self.left.now l.self.right.now l.self.width l.self.count l.i l.initial.x l.initial.picks l.x l.picks l.failed
