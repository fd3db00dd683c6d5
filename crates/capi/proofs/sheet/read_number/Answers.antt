use Rattle.capi.specs.HoursNumbers.{HoursNumbered}
use Rattle.capi.proofs.sheet.read_number.Goals as goal

pub returns-in-Ok : goal.returns-in-Ok
returns-in-Ok c = rw c.in-Ok.is (HoursNumbered.value _)

pub returns-in-Err : goal.returns-in-Err
returns-in-Err c = rw (c.in-Err.is, c.number.ensures) (HoursNumbered.refused _)
