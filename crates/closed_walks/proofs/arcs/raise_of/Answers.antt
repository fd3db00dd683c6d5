use Rattle.std.proofs.Common.{rules, eq-eqb, ne_eqb}
use Rattle.closed_walks.specs.Arcs.{raised_by}
use Rattle.closed_walks.proofs.arcs.raise_of.Goals as goal

pub returns-then-i-m : goal.returns-then-i-m
unfolding raised_by
returns-then-i-m c = (simp (eq-eqb _ _ c.if-i-m.true), c.requires.near, c.requires.some)

pub returns-else-i-m : goal.returns-else-i-m
unfolding raised_by
returns-else-i-m c = (simp (ne_eqb _ _ c.if-i-m.false), record { hi = search rules; lo = λ h. search rules }, search rules)
