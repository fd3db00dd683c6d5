use Rattle.std.proofs.Common.{arith}
use Rattle.records.proofs.problem.record_size.Goals as goal

pub returns : goal.returns
returns c = rw (← c.leads_place.ensures.0, ← c.questions_asked.ensures.0) (omega (arith, c.lead_count.ensures.0))
