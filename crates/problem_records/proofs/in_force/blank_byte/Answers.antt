use Rattle.problem_records.proofs.InForce.{blank_last, blank_other}
use Rattle.problem_records.proofs.in_force.blank_byte.Goals as goal

pub returns-then-k-eq3 : goal.returns-then-k-eq3
returns-then-k-eq3 c = search blank_last

pub returns-else-k-eq3 : goal.returns-else-k-eq3
returns-else-k-eq3 c = search blank_other
