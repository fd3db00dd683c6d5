use Rattle.std.proofs.Common.{eq-eqb, ◌∙◌}
use Rattle.records.proofs.Within.{within_blank, within_other}
use Rattle.records.proofs.offset.blank_or_within.Goals as goal

pub returns-then-k-eq0 : goal.returns-then-k-eq0
returns-then-k-eq0 c = let a = c.args in rw (eq-eqb a.k 0 c.if-k-eq0.true) (within_blank a.limit a.k c.requires c.if-k-eq0.true)

pub returns-else-k-eq0 : goal.returns-else-k-eq0
returns-else-k-eq0 c = c.whole_within.ensures ∙ within_other c.args.limit c.args.k c.requires (λ e. c.if-k-eq0.false e)
