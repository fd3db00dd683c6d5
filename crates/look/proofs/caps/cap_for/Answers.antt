use Rattle.look.proofs.Tables.{cap_blank, cap_whole}
use Rattle.look.proofs.caps.cap_for.Goals as goal

pub returns-then-k-eq0 : goal.returns-then-k-eq0
returns-then-k-eq0 c = rw c.if-k-eq0.true cap_blank

pub returns-else-k-eq0 : goal.returns-else-k-eq0
returns-else-k-eq0 c = cap_whole _ c.if-k-eq0.false
