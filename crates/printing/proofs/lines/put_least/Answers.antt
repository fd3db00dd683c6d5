use native.Mathlib.Omega.{arith}
use Rattle.printing.proofs.Copy.{put_then}
use Rattle.definitions.specs.Programs.{text_least}
use Rattle.printing.proofs.lines.put_least.Goals as goal

pub returns : goal.returns
unfolding text_least
returns c = (put_then c.copy-next.ensures c.put_span.ensures.0 (omega arith), omega arith)
