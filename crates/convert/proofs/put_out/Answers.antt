use Rattle.std.proofs.Common.{arith}
use Rattle.output.proofs.Shown.{shown_whole}
use Rattle.convert.proofs.put_out.Goals as goal

pub returns-in-Err : goal.returns-in-Err
returns-in-Err c = rw c.in-Err.is (let short = rw c.number.ensures at c.write_refused.ensures.short in shown_whole (rw c.number.ensures at c.write_refused.ensures.shown) c.requires (omega (arith, short)))
