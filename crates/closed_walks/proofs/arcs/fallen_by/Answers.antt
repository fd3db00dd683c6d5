use Rattle.std.proofs.Common.{eq-eqb, ne_eqb}
use Rattle.closed_walks.specs.Arcs.{fallen}
use Rattle.closed_walks.proofs.arcs.fallen_by.Goals as goal

pub returns-then-a-eq0 : goal.returns-then-a-eq0
unfolding fallen
returns-then-a-eq0 c = simp (eq-eqb _ _ c.if-a-eq0.true)

pub returns-else-a-eq0 : goal.returns-else-a-eq0
unfolding fallen
returns-else-a-eq0 c = simp (ne_eqb _ _ c.if-a-eq0.false)
