use Rattle.std.proofs.Common.{◌≡◌, false}
use Rattle.definitions.specs.Bytes.{some_below}
use Rattle.problem_records.specs.Tables.{row_blank}
use Rattle.problem_records.proofs.reader.some_silent.Given as goal

abbrev pub invariant-loop-i : goal.invariant-loop-i
invariant-loop-i l = some_below (row_blank l.bytes l.start l.n) l.i ≡ false
