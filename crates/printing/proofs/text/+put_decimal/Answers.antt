-- Each call leaves room for one digit more.
use native.Mathlib.Omega.{arith}
use Rattle.printing.proofs.Decimals.{decimal_put, decimal_puts, decimal_longer, decimal_most}
use Rattle.printing.proofs.text.+put_decimal.Goals as goal

pub returns-then-number-lt10 : goal.returns-then-number-lt10
returns-then-number-lt10 t c = (decimal_put _ _ _ _ c.digit.ensures c.if-number-lt10.true (omega arith), omega arith)

-- The place of the last digit is inside: the tenth part has at most 19 digits.
pub bounds-buf-next : goal.bounds-buf-next
bounds-buf-next t c =
    omega (arith, c.put_decimal-next.ensures.0.next_is, decimal_longer _ c.if-number-lt10.false, decimal_most c.args.number (omega arith))

pub returns : goal.returns
returns t c = (
  decimal_puts c.put_decimal-next.ensures.0 c.digit-2.ensures c.if-number-lt10.false (omega (arith, bounds-buf-next t c, c.put_decimal-next.ensures.0.kept)),
  omega (arith, bounds-buf-next t c, c.put_decimal-next.ensures.0.next_is, decimal_longer _ c.if-number-lt10.false, decimal_most c.args.number (omega arith)),
)
