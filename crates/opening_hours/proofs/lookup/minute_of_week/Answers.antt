use native.Mathlib.Omega.{arith}
use Rattle.opening_hours.proofs.Minutes.{week_before, week_from}
use Rattle.opening_hours.proofs.lookup.minute_of_week.Goals as goal

pub returns-then-z-ge-OFFSET : goal.returns-then-z-ge-OFFSET
returns-then-z-ge-OFFSET c = (search week_from, omega arith)

pub returns-else-z-ge-OFFSET : goal.returns-else-z-ge-OFFSET
returns-else-z-ge-OFFSET c = (search week_before, omega arith)
