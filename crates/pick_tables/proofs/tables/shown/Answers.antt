use mathlib.Core.Logic.{⊎_elim}
use Rattle.pick_tables.proofs.Shown.{shown_unmarked, shown_picked, shown_none}
use Rattle.pick_tables.proofs.tables.shown.Goals as goal

pub returns-then-pick-many : goal.returns-then-pick-many
returns-then-pick-many c = search shown_picked

pub returns-else-mark-ne0 : goal.returns-else-mark-ne0
returns-else-mark-ne0 c = ⊎_elim (λ h. shown_none _ _ _ h.0 h.1) (λ h. shown_unmarked _ _ _ h) c.else-mark-ne0.either
