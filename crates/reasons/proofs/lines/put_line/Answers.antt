use Rattle.std.proofs.Common.{arith}
use Rattle.reasons.proofs.Shown.{line_at}
use Rattle.reasons.proofs.lines.put_line.Goals as goal

pub returns : goal.returns
returns c = (line_at c.copy-a.ensures c.put_numbers-b.ensures.0 c.copy.ensures (omega arith) (omega arith), omega arith)
