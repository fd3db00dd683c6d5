use Rattle.capi.proofs.FirstOpen.{small_minute}
use Rattle.capi.proofs.opening.span_first_open.Goals as goal

pub admission_number-requires : goal.admission_number-requires
admission_number-requires c = small_minute c.first_open.ensures

pub returns : goal.returns
returns c = record { admission = _; admits = c.first_open.ensures; number_is = c.admission_number.ensures }
