use Rattle.base.specs.Filled.{FilledFrom}
use Prim.Native.Nat.{◌-◌, ◌≤◌}
use Rattle.problem_records.specs.InForce.{blank_byte}
use Rattle.problem_records.proofs.in_force.put_blanks.Given as goal

abbrev pub invariant-loop-k : goal.invariant-loop-k
invariant-loop-k l = (l.k ≤ l.count) × FilledFrom blank_byte l.at l.k l.initial.room l.room

abbrev pub decreases-loop-k : goal.decreases-loop-k
decreases-loop-k l = l.count - l.k
