use Rattle.std.proofs.Common.{refl}
use Rattle.records.proofs.problem.layout_of.Goals as goal

pub returns : goal.returns
returns c = rw (← c.leads_place.ensures.0, ← c.questions_asked.ensures.0) refl
