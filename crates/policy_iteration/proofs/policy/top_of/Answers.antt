use Rattle.base.proofs.Numbers.{positive}
use Rattle.policy_iteration.proofs.Given.{gives_blank, gives_whole}
use Rattle.policy_iteration.proofs.policy.top_of.Goals as goal

pub returns-then-side-eq0 : goal.returns-then-side-eq0
returns-then-side-eq0 c = rw c.if-side-eq0.true gives_blank

pub returns-else-side-eq0 : goal.returns-else-side-eq0
returns-else-side-eq0 c = gives_whole _ (c.requires.1 (positive _ c.if-side-eq0.false))
