use mathlib.Core.Path.{◌≡◌}
use lib.ListN.{get_or}
use Rattle.base.specs.Filled.{Filled}
use Rattle.definitions.specs.Offset.{trop_of}
use Rattle.duality.specs.Values.{difference}
use Rattle.policy_iteration.specs.Tables.{high}
use Rattle.policy_iteration.specs.Rounds.{folded}
use Rattle.policy_iteration.proofs.rows.Rows.round_from.Given as goal

abbrev pub invariant-loop-j : goal.invariant-loop-j
invariant-loop-j l = Filled (λ k v. trop_of (high v) ≡ difference (trop_of (high (folded (get_or l.sums k 0)))) (trop_of (get_or l.lefts k 0))) 32 l.j l.out
