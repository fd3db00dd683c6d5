use Rattle.census.proofs.Printed.{shows_nothing, shows_row}
use Rattle.census.proofs.lines.table_line.Goals as goal

pub returns-in-Err-clause-shown : goal.returns-in-Err-clause-shown
returns-in-Err-clause-shown c = shows_nothing c.take_census.ensures c.in-Err.is

pub returns-in-Ok-clause-shown : goal.returns-in-Ok-clause-shown
returns-in-Ok-clause-shown c = shows_row c.take_census.ensures c.in-Ok.is c.put_numbers.ensures.0
