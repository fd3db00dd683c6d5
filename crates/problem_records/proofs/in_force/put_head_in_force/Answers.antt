use native.Mathlib.Omega.{arith}
use Rattle.problem_records.proofs.in_force.put_head_in_force.Goals as goal

pub head_in_force-head-requires : goal.head_in_force-head-requires
head_in_force-head-requires c = let p = c.requires in (p.0, p.1, omega (arith, c.lead_count.ensures.0))

pub returns : goal.returns
returns c = rw c.head_in_force-head.ensures at c.copy_part.ensures
