use Rattle.capi.proofs.Hours.{small_value}
use Rattle.capi.proofs.sheet.span_hours_read.Goals as goal

pub read_number-requires : goal.read_number-requires
read_number-requires c = small_value c.read_hours.ensures

pub returns : goal.returns
returns c = record { reading = _; reads = c.read_hours.ensures; numbered = c.read_number.ensures }
