use native.Mathlib.Omega.{arith}
use Rattle.std.proofs.lemmas.Bool.Decides.{nat_tests}
use Rattle.opening_hours.proofs.Minutes.{taken, admits_bad_week, admits_beyond, admits_never, admits_at, asked}
use Rattle.opening_hours.proofs.lookup.first_open.Goals.{then-not-list_fits-via-then-not-list_fits, then-not-list_fits-via-else-not-list_fits+then-not-whole_within}
use Rattle.opening_hours.proofs.lookup.first_open.Goals as goal

pub returns-then-not-list_fits : goal.returns-then-not-list_fits
returns-then-not-list_fits c = elim c.then-not-list_fits.branch [
  | then-not-list_fits-via-then-not-list_fits w ↦ admits_bad_week _ c.list_fits.ensures w.if-not-list_fits.true
  | then-not-list_fits-via-else-not-list_fits+then-not-whole_within w ↦ admits_beyond _ w.whole_within.ensures w.if-not-whole_within.true
]

pub returns-then-is_empty : goal.returns-then-is_empty
returns-then-is_empty c = admits_never (taken _ c.list_fits.ensures c.if-not-list_fits.false c.whole_within.ensures c.if-not-whole_within.false) (grind (arith, nat_tests))

pub overflow_sub-result : goal.overflow_sub-result
overflow_sub-result c = omega (arith, (taken _ c.list_fits.ensures c.if-not-list_fits.false c.whole_within.ensures c.if-not-whole_within.false).within.low)

pub open_from-requires : goal.open_from-requires
open_from-requires c = asked (taken _ c.list_fits.ensures c.if-not-list_fits.false c.whole_within.ensures c.if-not-whole_within.false) (grind (arith, nat_tests)) c.minute_of_week-minute.ensures.1

pub overflow_add-result : goal.overflow_add-result
overflow_add-result c = omega (arith, (taken _ c.list_fits.ensures c.if-not-list_fits.false c.whole_within.ensures c.if-not-whole_within.false).within.high)

pub returns : goal.returns
returns c = admits_at (taken _ c.list_fits.ensures c.if-not-list_fits.false c.whole_within.ensures c.if-not-whole_within.false) c.minute_of_week-minute.ensures.0 c.minute_of_week-minute.ensures.1 c.open_from.ensures
