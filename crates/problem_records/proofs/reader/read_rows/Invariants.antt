use Rattle.std.proofs.Common.{◌*◌}
use Rattle.problem_records.specs.Filling.{Tabled}
use Rattle.problem_records.proofs.reader.read_rows.Given as goal

abbrev pub invariant-loop-i : goal.invariant-loop-i
invariant-loop-i l = Tabled l.bytes l.n l.m (32 * l.i) l.left l.right
