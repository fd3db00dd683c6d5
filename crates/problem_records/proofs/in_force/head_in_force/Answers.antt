use Rattle.problem_records.proofs.InForce.{head_is}
use Rattle.problem_records.proofs.in_force.head_in_force.Goals as goal

pub returns : goal.returns
returns c = rw c.to_le_bytes.ensures (head_is _ _ _ c.requires.0 c.requires.1 c.requires.2)
