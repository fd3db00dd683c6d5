use native.Mathlib.Omega.{arith}
use Rattle.census.proofs.Printed.{shows_refused, shows_counts}
use Rattle.census.proofs.lines.census_line.Goals as goal

pub returns-in-Err : goal.returns-in-Err
returns-in-Err c = (omega arith, shows_refused c.take_census.ensures c.in-Err.is (rw c.number.ensures at c.refused_line.ensures.0))

pub returns-in-Ok : goal.returns-in-Ok
returns-in-Ok c = (omega arith, shows_counts c.take_census.ensures c.in-Ok.is c.put_numbers.ensures.0)
