use mathlib.Core.Path.{◌≡◌}
use lib.ListN.{get_or}
use Rattle.base.specs.Filled.{Filled}
use Rattle.policy_iteration.specs.Tables.{high}
use Rattle.policy_iteration.proofs.policy.highs_of.Given as goal

abbrev pub invariant-loop-j : goal.invariant-loop-j
invariant-loop-j l = Filled (λ k v. v ≡ high (get_or l.x k 0)) 32 l.j l.out
