use Rattle.capi.proofs.Counted.{census_counted, census_refused}
use Rattle.capi.proofs.census.span_census.Goals as goal

pub returns-in-Ok : goal.returns-in-Ok
returns-in-Ok c = census_counted c.take_census.ensures c.in-Ok.is c.lend_counts.ensures

pub returns-in-Err : goal.returns-in-Err
returns-in-Err c = census_refused c.take_census.ensures c.in-Err.is c.number.ensures _
