use native.Mathlib.Omega.{arith}
use Rattle.hour_texts.proofs.Writing.{clock_put}
use Rattle.hour_texts.proofs.writer.put_clock.Goals as goal

pub returns : goal.returns
returns c = clock_put _ c.put_decimal-next.ensures.0 c.put_minutes.ensures (omega arith)
