use Rattle.problem_records.proofs.InForce.{state_tested}
use Rattle.problem_records.proofs.reader.wrong_state.Goals as goal

pub returns : goal.returns
returns c = state_tested _ _ c.short_at.ensures.0
