use Rattle.std.proofs.Common.{arith}
use Rattle.printing.proofs.Printing.{line_puts}
use Rattle.definitions.specs.Programs.{refused_line, text_refused}
use Rattle.printing.proofs.lines.refused_line.Goals as goal

pub returns : goal.returns
unfolding refused_line text_refused
returns c = (line_puts c.copy-a.ensures c.put_decimal-b.ensures.0 c.copy.ensures (omega arith), omega arith)
