use native.Mathlib.Omega.{arith}
use Rattle.engine.proofs.Outcomes.{found_room, never_refused, size_for, wrote_for}
use Rattle.engine.proofs.solve.write_found.Goals as goal

pub unwrap-requires : goal.unwrap-requires
unwrap-requires c = never_refused c.write_answer.ensures c.requires (omega (arith, found_room c.requires)) c.number-class.ensures c.stamp_count.ensures.0 c.pick_count.ensures.0

pub returns-clause-size_is : goal.returns-clause-size_is
returns-clause-size_is c = size_for c.write_answer.ensures c.requires (omega (arith, found_room c.requires)) c.number-class.ensures c.stamp_count.ensures.0 c.pick_count.ensures.0 c.unwrap.ensures

pub returns-clause-record_stands : goal.returns-clause-record_stands
returns-clause-record_stands c = wrote_for c.write_answer.ensures c.requires (omega (arith, found_room c.requires)) c.number-class.ensures c.stamp_count.ensures.0 c.pick_count.ensures.0
