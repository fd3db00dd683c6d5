use native.Mathlib.Omega.{arith}
use Rattle.base.proofs.Filled.{filled_none}
use Rattle.base.proofs.Lists.{copied_whole}
use borrow.Author.Rules.{rules}
use Rattle.policy_iteration.proofs.policy.indices.Goals as goal

pub loop-j-init : goal.loop-j-init
loop-j-init c = filled_none 32

pub returns : goal.returns
returns c = copied_whole c.loop-j.invariant (omega arith) (search rules)
