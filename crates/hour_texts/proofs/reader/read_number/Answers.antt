use native.Mathlib.Omega.{arith}
use Rattle.hour_texts.proofs.Numbers.{empty_none, zero_none}
use Rattle.hour_texts.proofs.reader.read_number.Goals as goal

pub returns-in-empty : goal.returns-in-empty
returns-in-empty c = empty_none _ (omega arith)

pub returns-in-empty-2 : goal.returns-in-empty-2
returns-in-empty-2 c = zero_none _ (omega arith) (omega arith)
