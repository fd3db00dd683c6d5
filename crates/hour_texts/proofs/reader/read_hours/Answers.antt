use native.Mathlib.Omega.{arith}
use Rattle.hour_texts.proofs.Values.{long_none, blank_text}
use Rattle.hour_texts.proofs.reader.read_hours.Goals as goal

pub returns-then-text-gt-TEXT_MOST : goal.returns-then-text-gt-TEXT_MOST
returns-then-text-gt-TEXT_MOST c = long_none c.if-text-gt-TEXT_MOST.true

pub returns-in-45 : goal.returns-in-45
returns-in-45 c = blank_text _ (omega arith) (omega arith) (omega arith)
