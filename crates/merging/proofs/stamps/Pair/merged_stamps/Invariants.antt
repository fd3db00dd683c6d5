use Prim.Native.Nat.{◌<◌}
use mathlib.Core.Path.{◌≡◌}
use Rattle.base.specs.Filled.{Filled}
use Rattle.definitions.specs.Limits.{signed_full, stride}
use Rattle.definitions.specs.Offset.{trop_of}
use Rattle.merging.specs.Outcome.{joined}
use Rattle.merging.proofs.stamps.Pair.merged_stamps.Given as goal

abbrev pub invariant-loop-j : goal.invariant-loop-j
invariant-loop-j l = Filled (λ k v. (trop_of v ≡ joined l.self.back l.self.first.now l.self.second.now k) × (v < signed_full)) stride l.j l.out
