use Rattle.base.specs.Filled.{Filled}
use mathlib.Core.List.{[]}
use Rattle.policy_iteration.specs.Tables.{system_of, pick_of, high}
use mathlib.Core.Path.{◌≡◌}
use Rattle.definitions.specs.Offset.{trop_of}
use Rattle.duality.specs.Values.{exits as exitsOf}
use Rattle.policy_iteration.proofs.values.exits.Given as goal

abbrev pub invariant-loop-j : goal.invariant-loop-j
invariant-loop-j l = Filled (λ k v. trop_of (high v) ≡ exitsOf (system_of [] [] l.caps l.width l.rows) (pick_of l.picks) k) 32 l.j l.out
