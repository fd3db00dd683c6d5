use native.Mathlib.Omega.{arith}
use Rattle.base.proofs.Filled.{filled_none}
use Rattle.policy_iteration.proofs.Low.{is_highs}
use Rattle.policy_iteration.proofs.policy.highs_of.Goals as goal

pub loop-j-init : goal.loop-j-init
loop-j-init c = filled_none 32

pub returns : goal.returns
returns c = is_highs c.args.x.now _ c.requires c.loop-j.invariant.size_is (λ k h. c.loop-j.invariant.each k (omega arith))
