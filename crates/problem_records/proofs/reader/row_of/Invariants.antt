use Rattle.std.proofs.Common.{◌+◌, ◌*◌}
use Rattle.problem_records.specs.Tables.{lead_at}
use Rattle.problem_records.specs.Filling.{RowOf}
use Rattle.problem_records.proofs.reader.row_of.Given as goal

abbrev pub invariant-loop-j : goal.invariant-loop-j
invariant-loop-j l = RowOf (λ i. lead_at l.bytes (l.at + 4 * i)) l.j l.row
