use Rattle.closed_walks.proofs.ClosedWalks.{end_value_lem}
use Rattle.closed_walks.proofs.gains.end_value.Goals as goal

pub returns : goal.returns
returns c = λ h k. end_value_lem _ _ _ _ _ h k (rw c.offset_32.ensures.0 at c.wrapping_add_u32.ensures.value) c.later.ensures.1 c.later.ensures.0
