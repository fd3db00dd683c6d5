use native.Mathlib.Omega.{arith}
use Rattle.converter.proofs.Steps.{row_inside}
use Rattle.converter.proofs.convert.Record.begins_blank.Goals as goal

pub all_blank-requires : goal.all_blank-requires
all_blank-requires c = rw c.row.ensures (omega (arith, row_inside c.args.self.now.stored c.args.i (omega arith)))

pub returns : goal.returns
returns c = rw c.row.ensures at c.all_blank.ensures
