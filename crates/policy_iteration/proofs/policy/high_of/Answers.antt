use Rattle.base.proofs.Numbers.{positive}
use Rattle.policy_iteration.proofs.Low.{high_zero, high_whole}
use mathlib.Core.Path.{sym}
use Rattle.policy_iteration.proofs.policy.high_of.Goals as goal

pub returns-then-k-eq0 : goal.returns-then-k-eq0
returns-then-k-eq0 c = rw c.if-k-eq0.true (sym high_zero)

pub returns-else-k-eq0 : goal.returns-else-k-eq0
returns-else-k-eq0 c = (let e = high_whole _ (positive _ c.if-k-eq0.false) in cc)
