use borrow.Author.Tests.{eq-eqb, ne_eqb}
use Rattle.plan_tests.specs.Sides.{lowered}
use Rattle.plan_tests.proofs.lower_stamp.Goals as goal

pub returns-then-stamp-eq0 : goal.returns-then-stamp-eq0
unfolding lowered
returns-then-stamp-eq0 c = simp (eq-eqb _ _ c.if-stamp-eq0.true)

pub returns-else-stamp-eq0 : goal.returns-else-stamp-eq0
unfolding lowered
returns-else-stamp-eq0 c = simp (ne_eqb _ _ c.if-stamp-eq0.false)
