use Rattle.capi.proofs.Converting.{small_conversion}
use Rattle.capi.proofs.conversion.span_convert.Goals as goal

pub size_number-requires : goal.size_number-requires
size_number-requires c = small_conversion c.convert.ensures

pub returns : goal.returns
returns c = record { result = _; converts = c.convert.ensures; number_is = c.size_number.ensures }
