use Rattle.problem_records.proofs.InForce.{rows_none, rows_next, rows_done}
use native.Mathlib.Omega.{arith}
use Rattle.problem_records.proofs.in_force.put_rows_in_force.Goals as goal

pub loop-i-init : goal.loop-i-init
loop-i-init c = (omega arith, rows_none _ _ _ c.requires.1)

pub put_row_in_force-requires : goal.put_row_in_force-requires
put_row_in_force-requires c = (c.requires.0, omega arith, c.loop-i.invariant.1.size_is)

pub loop-i-preserved : goal.loop-i-preserved
loop-i-preserved c = (omega arith, rows_next c.loop-i.invariant.1 c.put_row_in_force.ensures)

pub shape_of-room : goal.shape_of-room
shape_of-room c = omega (arith, c.loop-i.invariant.1.size_is, c.requires.1)

pub returns : goal.returns
returns c = rows_done c.loop-i.invariant.1 c.loop-i.invariant.0 (omega arith)
