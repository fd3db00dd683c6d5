use Prim.Native.Nat.{◌+◌, ◌-◌, ◌≤◌}
use Rattle.problem_records.specs.InForce.{RowsInForce}
use Rattle.problem_records.proofs.in_force.put_rows_in_force.Given as goal

abbrev pub invariant-loop-i : goal.invariant-loop-i
invariant-loop-i l = (l.i ≤ l.m + 1) × RowsInForce l.bytes l.n l.m l.i l.room

abbrev pub decreases-loop-i : goal.decreases-loop-i
decreases-loop-i l = l.m + 1 - l.i
