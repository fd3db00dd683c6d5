use Prim.Native.Nat.{◌≤◌, ◌<◌}
use mathlib.Core.Path.{◌≡◌}
use Rattle.definitions.specs.Limits.{signed_full}
use Rattle.definitions.specs.Offset.{off}
use Rattle.plan_tests.specs.Sides.{run, best_sum}
use Rattle.plan_tests.proofs.best_of.Given as goal

abbrev pub invariant-loop-l : goal.invariant-loop-l
invariant-loop-l l = (l.l ≤ l.count) × (l.best < signed_full) × (off l.best ≡ best_sum (run l.bytes l.at) l.x l.l)
