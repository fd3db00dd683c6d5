use mathlib.Core.Path.{◌∙◌}
use Rattle.capi.proofs.Hours.{small_text, text_number}
use Rattle.capi.proofs.sheet.span_hours_write.Goals as goal

pub size_number-requires : goal.size_number-requires
size_number-requires c = small_text _ c.write_hours.ensures

pub returns : goal.returns
returns c = record { writing = _; writes = c.write_hours.ensures; number_is = c.size_number.ensures ∙ text_number _ }
