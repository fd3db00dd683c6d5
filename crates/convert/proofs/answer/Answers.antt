use mathlib.Core.Path.{refl}
use Rattle.convert.proofs.Put.{convert_read, convert_output}
use Rattle.convert.proofs.answer.Goals as goal

pub returns : goal.returns
returns c = (c.put_out.ensures.0, convert_read _ _ _ (λ input k. convert_output _ (c.convert_input-converted.ensures input k) refl c.put_out.ensures.1))
