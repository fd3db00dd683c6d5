use native.Mathlib.Omega.{arith}
use mathlib.Core.Path.{refl}
use Rattle.policy_iteration.proofs.Places.{ends_nowhere}
use Rattle.policy_iteration.proofs.ends.ends_of.Goals as goal

pub loop-i-init : goal.loop-i-init
loop-i-init c = (omega arith, refl, λ k. ends_nowhere 64 k)
