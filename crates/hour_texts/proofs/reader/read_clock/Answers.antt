use native.Mathlib.Omega.{arith}
use Rattle.hour_texts.proofs.Numbers.{hours_few}
use Rattle.hour_texts.proofs.reader.read_clock.Goals as goal

pub overflow_mul-result : goal.overflow_mul-result
overflow_mul-result c = omega (arith, hours_few _ c.in_ok-read_number.ensures (omega arith))

pub overflow_add-result : goal.overflow_add-result
overflow_add-result c = omega (arith, hours_few _ c.in_ok-read_number.ensures (omega arith), c.in_ok-read_minutes.ensures)
