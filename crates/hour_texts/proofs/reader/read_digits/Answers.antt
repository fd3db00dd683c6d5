use native.Mathlib.Omega.{arith}
use Rattle.hour_texts.proofs.Numbers.{begun_none, begun_more, begun_all, begun_small, digit_none}
use Rattle.hour_texts.proofs.reader.read_digits.Goals as goal

pub loop-byte-init : goal.loop-byte-init
loop-byte-init c = begun_none _

pub returns-in_err-number : goal.returns-in_err-number
returns-in_err-number c = rw c.from_residual.ensures (digit_none c.in_err-number.ensures (omega arith))

pub overflow_mul-number : goal.overflow_mul-number
overflow_mul-number c = omega (arith, begun_small c.loop-byte.invariant (omega arith))

pub overflow_add-number : goal.overflow_add-number
overflow_add-number c = omega (arith, begun_small c.loop-byte.invariant (omega arith), c.in_ok-number.ensures)

pub loop-byte-preserved : goal.loop-byte-preserved
loop-byte-preserved c = begun_more c.loop-byte.invariant c.in_ok-number.ensures (omega arith) c.requires.2

pub returns : goal.returns
returns c = begun_all c.loop-byte.invariant (omega arith) c.requires.0
