use native.Mathlib.Omega.{arith}
use Rattle.printing.proofs.Printing.{line_puts}
use Rattle.definitions.specs.Programs.{verdict_line, text_accepted}
use Rattle.printing.proofs.lines.accepted_line.Goals as goal

pub returns : goal.returns
unfolding verdict_line text_accepted
returns c = (line_puts c.copy-a.ensures c.put_class-b.ensures.0 c.copy.ensures (omega arith), omega arith)
