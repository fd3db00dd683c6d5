use Rattle.capi.proofs.Grounds.{as_refused, as_none, as_least}
use Rattle.capi.proofs.behind.span_reasons.Goals as goal

pub returns-in-None : goal.returns-in-None
returns-in-None c = as_none c.in-Ok.ensures c.as_slice.ensures.0 c.in-None.is c.lend_numbers.ensures

pub returns-in-Some : goal.returns-in-Some
returns-in-Some c = as_least c.in-Ok.ensures c.as_slice-in-Some.ensures.0 c.in-Some.is c.as_slice-in-Some-2.ensures.0 c.lend_numbers-in-Some.ensures

pub returns-in-Err : goal.returns-in-Err
returns-in-Err c = as_refused c.in-Err.ensures c.number.ensures
