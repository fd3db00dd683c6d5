use mathlib.Core.Path.{sym}
use native.Mathlib.Omega.{arith}
use lib.Seq.{length-take-le}
use Rattle.printing.proofs.Appending.{output_line}
use Rattle.output.proofs.writer.write_accepted.Goals as goal

pub slice_bounds-write-end : goal.slice_bounds-write-end
slice_bounds-write-end c = sym (length-take-le _ _ (omega arith))

pub returns : goal.returns
returns c = record { shown = output_line c.accepted_line-size.ensures.0 c.write.ensures; short = omega arith }
