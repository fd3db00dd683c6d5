use Rattle.capi.proofs.Merging.{small_merged}
use Rattle.capi.proofs.plans.span_merge.Goals as goal

pub size_number-requires : goal.size_number-requires
size_number-requires c = small_merged c.merge.ensures

pub returns : goal.returns
returns c = record { result = _; merges = c.merge.ensures; number_is = c.size_number.ensures }
