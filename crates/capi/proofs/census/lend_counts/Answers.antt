use mathlib.Core.Path.{refl}
use lib.Seq.{length-take-le}
use Rattle.capi.specs.Census.{too_few}
use Rattle.capi.proofs.Counted.{counts_lent}
use Rattle.capi.proofs.Lent.{front_put}
use Rattle.capi.proofs.census.lend_counts.Goals as goal

pub returns-then-counts-lt-COUNT_PLACES : goal.returns-then-counts-lt-COUNT_PLACES
returns-then-counts-lt-COUNT_PLACES c = too_few c.if-counts-lt-COUNT_PLACES.true

pub copy_from_slice-requires : goal.copy_from_slice-requires
copy_from_slice-requires c = length-take-le _ _ c.if-counts-lt-COUNT_PLACES.false

pub returns : goal.returns
returns c = counts_lent _ _ c.if-counts-lt-COUNT_PLACES.false (front_put _ c.copy_from_slice.ensures.after refl)
