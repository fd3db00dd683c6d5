use Rattle.hour_texts.proofs.Numbers.{tens_none, ones_none}
use Rattle.hour_texts.proofs.reader.read_minutes.Goals as goal
use native.Mathlib.Omega.{arith}
use Rattle.std.proofs.lemmas.Grind.{common_steps}

pub returns-in_err-read_digit : goal.returns-in_err-read_digit
returns-in_err-read_digit c = rw c.from_residual.ensures (tens_none _ c.in_err-read_digit.ensures)

pub returns-in_err-minutes : goal.returns-in_err-minutes
returns-in_err-minutes c = rw c.from_residual-in_err-minutes.ensures (ones_none _ c.in_err-minutes.ensures)

pub returns-then-minutes-lt-HOUR : goal.returns-then-minutes-lt-HOUR
returns-then-minutes-lt-HOUR c = record { below_hour = omega arith; part_is = grind (arith, common_steps) }
