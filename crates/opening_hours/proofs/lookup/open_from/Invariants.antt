use Rattle.opening_hours.proofs.Lists.{ShutTo}
use Rattle.opening_hours.proofs.lookup.open_from.Given as goal

abbrev pub invariant-loop-opening : goal.invariant-loop-opening
invariant-loop-opening l = ShutTo l.week l.minute l.opening-index
