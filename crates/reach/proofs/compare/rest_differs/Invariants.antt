use Prim.Native.Nat.{◌≤◌}
use Rattle.definitions.specs.Marks.{DifferBelow}
use Rattle.reach.proofs.compare.rest_differs.Given as goal

abbrev pub invariant-loop-k : goal.invariant-loop-k
invariant-loop-k l = (l.k ≤ l.count) × (DifferBelow l.k l.old l.new → ⊥)
