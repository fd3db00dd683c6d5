use mathlib.Core.Path.{ap, ◌∙◌}
use mathlib.Core.Bool.{not}
use mathlib.Core.Logic.{⊎_elim}
use borrow.Author.Tests.{eq-eqb, ne_eqb}
use Rattle.merging.proofs.Later.{early_is, early_not}
use Rattle.merging.proofs.stamps.is_early.Goals.{then-first-eq0, else-first-eq0}
use Rattle.merging.proofs.stamps.is_early.Goals as goal

pub returns-then-second-ne0 : goal.returns-then-second-ne0
returns-then-second-ne0 c = let a = c.args in early_is a.back a.first a.second c.requires.0 c.if-second-ne0.true.0 c.if-second-ne0.true.1

pub returns-else-second-ne0 : goal.returns-else-second-ne0
returns-else-second-ne0 c =
    let a = c.args in
    let none = early_not a.back a.first a.second c.requires.0 c.if-second-ne0.either in
    elim c.if-first-eq0.branch [
      | then-first-eq0 w ↦ w.t-5-is ∙ ap not (eq-eqb _ _ (⊎_elim (λ z. z.1) (λ z. absurd (z w.if-first-eq0.true)) c.if-second-ne0.either)) ∙ none
      | else-first-eq0 w ↦ w.t-5-is ∙ ne_eqb _ _ w.if-first-eq0.false ∙ none
    ]
