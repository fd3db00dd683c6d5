use native.Mathlib.Omega.{arith}
use Rattle.hour_texts.proofs.Writing.{blank_put, plain_put, minus_put}
use Rattle.hour_texts.proofs.writer.put_text.Goals as goal

pub returns-in-0 : goal.returns-in-0
returns-in-0 c = blank_put _ c.copy.ensures (omega arith)

pub returns-in-2147483648-to-18446744073709551615 : goal.returns-in-2147483648-to-18446744073709551615
returns-in-2147483648-to-18446744073709551615 c = plain_put _ c.put_clock-in-2147483648-to-18446744073709551615.ensures (omega arith)

pub returns-in_default : goal.returns-in_default
returns-in_default c = minus_put _ c.copy-next.ensures c.put_clock.ensures (λ e. omega arith) (omega arith)
