use Rattle.std.proofs.Common.{eq-eqb, ne_eqb}
use Rattle.closed_walks.specs.Arcs.{lifted}
use Rattle.closed_walks.proofs.arcs.lifted_by.Goals as goal

pub returns-then-b-eq0 : goal.returns-then-b-eq0
unfolding lifted
returns-then-b-eq0 c = simp (eq-eqb _ _ c.if-b-eq0.true)

pub returns-else-b-eq0 : goal.returns-else-b-eq0
unfolding lifted
returns-else-b-eq0 c = simp (ne_eqb _ _ c.if-b-eq0.false)
