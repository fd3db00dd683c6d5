use Rattle.look.proofs.Tables.{shifted_blank, shifted_whole}
use Rattle.look.proofs.frame.shift.Goals as goal

pub returns-then-k-eq0 : goal.returns-then-k-eq0
returns-then-k-eq0 c = rw c.if-k-eq0.true (shifted_blank _)

pub returns : goal.returns
returns c = rw c.from.ensures (shifted_whole _ _ c.if-k-eq0.false)
