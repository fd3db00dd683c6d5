use borrow.Author.Tests.{eq-eqb, ne_eqb}
use Rattle.reach.specs.Spreading.{mark_of}
use Rattle.reach.proofs.mark_of.Goals as goal

pub returns-then-arc-eq0 : goal.returns-then-arc-eq0
unfolding mark_of
returns-then-arc-eq0 c = simp (eq-eqb _ _ c.if-arc-eq0.true)

pub returns-else-arc-eq0 : goal.returns-else-arc-eq0
unfolding mark_of
returns-else-arc-eq0 c = simp (ne_eqb _ _ c.if-arc-eq0.false)
