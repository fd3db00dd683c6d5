use mathlib.Core.Path.{◌≡◌}
use mathlib.Core.Bool.{false}
use Prim.Native.Nat.{◌-◌, ◌≤◌}
use Rattle.definitions.specs.Bytes.{some_below}
use Rattle.definitions.specs.ProblemRecord.{wrong_state}
use Rattle.problem_records.proofs.reader.some_wrong.Given as goal

abbrev pub invariant-loop-i : goal.invariant-loop-i
invariant-loop-i l = (l.i ≤ l.m) × (some_below (wrong_state l.bytes) l.i ≡ false)

abbrev pub decreases-loop-i : goal.decreases-loop-i
decreases-loop-i l = l.m - l.i
