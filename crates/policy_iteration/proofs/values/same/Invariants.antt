use Prim.Native.Nat.{◌≤◌}
use mathlib.Core.Path.{◌≡◌}
use Rattle.policy_iteration.specs.Rounds.{SameUpTo}
use Rattle.policy_iteration.proofs.values.same.Given as goal

abbrev pub invariant-loop-j : goal.invariant-loop-j
invariant-loop-j l = (l.count ≤ l.j) × (l.count ≡ 0 → SameUpTo l.j l.x l.y)
