use Rattle.opening_hours.proofs.Lists.{FitsTo}
use Rattle.opening_hours.proofs.list.list_fits.Given as goal

abbrev pub invariant-loop-opening : goal.invariant-loop-opening
invariant-loop-opening l = FitsTo l.week l.opening-index l.last
