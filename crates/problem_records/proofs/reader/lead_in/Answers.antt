use mathlib.Core.Path.{refl}
use native.Mathlib.Omega.{arith}
use Rattle.problem_records.proofs.Tables.{lead_read}
use Rattle.problem_records.proofs.reader.lead_in.Goals as goal

pub returns : goal.returns
returns c = (lead_read _ c.word_in.ensures.0 c.offset_32.ensures.0 refl, omega arith)
