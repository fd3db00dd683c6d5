use Prim.Native.Nat.{◌<◌}
use mathlib.Core.Path.{◌≡◌}
use Rattle.base.specs.Numbers.{uppermost}
use Rattle.definitions.specs.Limits.{signed_full}
use Rattle.definitions.specs.Offset.{off}
use Rattle.policy_iteration.specs.Rounds.{sums}
use Rattle.policy_iteration.proofs.values.full_sum.Given as goal

abbrev pub invariant-loop-l : goal.invariant-loop-l
invariant-loop-l l = (off l.best ≡ uppermost (sums l.table l.row l.x) l.l) × (l.best < signed_full)
