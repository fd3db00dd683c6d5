use native.Mathlib.Omega.{arith}
use Rattle.printing.proofs.Copy.{put_then}
use Rattle.census.proofs.lines.put_spaced.Goals as goal

pub returns : goal.returns
returns c = (put_then c.put_decimal-next.ensures.0 c.copy.ensures (omega arith), omega arith)
