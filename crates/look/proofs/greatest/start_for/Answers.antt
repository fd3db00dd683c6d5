use mathlib.Core.Path.{sym, ◌∙◌}
use borrow.Author.Tests.{eqb-true, eqb-false}
use Rattle.look.proofs.Looking.{start_blank, start_second, start_anchor}
use Rattle.look.proofs.greatest.start_for.Goals as goal
use Rattle.look.proofs.greatest.start_for.Goals.{then-second-eq0, else-second-eq0}

pub returns-then-right-row-eq0 : goal.returns-then-right-row-eq0
returns-then-right-row-eq0 c = elim c.if-second-eq0.branch [
  | then-second-eq0 w ↦ sym (start_blank _ _ _ w.if-second-eq0.true)
  | else-second-eq0 w ↦ start_second _ _ _ w.if-second-eq0.false (eqb-true _ _ (sym w.value-is ∙ c.if-right-row-eq0.true))
]

pub returns-else-right-row-eq0 : goal.returns-else-right-row-eq0
returns-else-right-row-eq0 c = elim c.if-second-eq0.branch [
  | then-second-eq0 w ↦ absurd (eqb-false _ _ (sym w.value-is ∙ c.if-right-row-eq0.false) w.if-second-eq0.true)
  | else-second-eq0 w ↦ start_anchor _ _ _ w.if-second-eq0.false (eqb-false _ _ (sym w.value-is ∙ c.if-right-row-eq0.false))
]
