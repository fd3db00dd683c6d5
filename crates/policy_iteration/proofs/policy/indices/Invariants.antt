use mathlib.Core.Path.{◌≡◌}
use lib.ListN.{get_or}
use Rattle.base.specs.Filled.{Filled}
use Rattle.policy_iteration.proofs.policy.indices.Given as goal

abbrev pub invariant-loop-j : goal.invariant-loop-j
invariant-loop-j l = Filled (λ k v. v ≡ get_or l.picks k 0) 32 l.j l.out
