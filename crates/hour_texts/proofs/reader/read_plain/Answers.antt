use native.Mathlib.Omega.{arith}
use Rattle.hour_texts.proofs.Values.{plain_none, plain_beyond, plain_value}
use Rattle.hour_texts.proofs.reader.read_plain.Goals as goal

pub returns-in-Some : goal.returns-in-Some
returns-in-Some c = plain_value c.in-Some.ensures (omega arith)

pub returns-in_default : goal.returns-in_default
returns-in_default c = plain_beyond c.in-Some.ensures (omega arith) c.requires.1

pub returns-in_default-2 : goal.returns-in_default-2
returns-in_default-2 c = plain_none (rw c.in_default.is at c.read_clock.ensures) c.requires.1
