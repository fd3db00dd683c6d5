use Rattle.std.proofs.Common.{arith}
use Rattle.problem_records.proofs.Tables.{tabled_row}
use Rattle.problem_records.proofs.reader.read_rows.Goals as goal

pub loop-i-preserved : goal.loop-i-preserved
loop-i-preserved c = tabled_row c.loop-i.invariant c.loop-i-test.true (omega (arith, c.row_place-at.ensures.0)) c.read_row.ensures c.read_row-in-loop-i.ensures
