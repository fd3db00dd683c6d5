use Rattle.std.proofs.Common.{arith}
use Rattle.output.proofs.Shown.{shown_whole}
use Rattle.span.proofs.put_out.Goals as goal

pub returns-in-Err-clause-inside : goal.returns-in-Err-clause-inside
returns-in-Err-clause-inside c = (shown_whole c.write_refused.ensures.shown c.requires (omega arith)).0

pub returns-in-Err-clause-shown : goal.returns-in-Err-clause-shown
returns-in-Err-clause-shown c = rw c.in-Err.is (let short = rw c.number.ensures at c.write_refused.ensures.short in shown_whole (rw c.number.ensures at c.write_refused.ensures.shown) c.requires (omega (arith, short))).1
