use Rattle.problem_records.proofs.InForce.{room_laid}
use Rattle.checker.proofs.InForce.{answered_in_force}
use Rattle.checker.proofs.check.check_room.Goals as goal

pub invariant_of-check_answer : goal.invariant_of-check_answer
invariant_of-check_answer c = record { laid = room_laid c.requires.0 c.requires.1 (record { byte = λ i. (c.type_inv.room i).fits }) }

pub returns : goal.returns
returns c = answered_in_force c.requires.0 c.requires.1 c.check_answer.ensures
