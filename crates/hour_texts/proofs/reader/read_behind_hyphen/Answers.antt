use native.Mathlib.Omega.{arith}
use Rattle.hour_texts.proofs.Values.{behind_none, behind_outside, behind_value}
use Rattle.hour_texts.proofs.reader.read_behind_hyphen.Goals as goal

pub returns-in-Some : goal.returns-in-Some
returns-in-Some c = behind_value c.in-Some.ensures (omega arith) (omega arith)

pub returns-in_default : goal.returns-in_default
returns-in_default c = behind_outside c.in-Some.ensures (λ p h. omega arith)

pub returns-in_default-2 : goal.returns-in_default-2
returns-in_default-2 c = behind_outside c.in-Some.ensures (λ p h. omega arith)

pub returns-in_default-3 : goal.returns-in_default-3
returns-in_default-3 c = behind_none (rw c.in_default.is at c.read_clock.ensures) c.requires.1
