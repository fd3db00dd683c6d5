use Rattle.std.proofs.Common.{◌≡◌}
use Rattle.definitions.specs.ProblemRecord.{run_blank}
use Rattle.problem_records.proofs.reader.all_blank.Given as goal

abbrev pub invariant-loop-i : goal.invariant-loop-i
invariant-loop-i l = l.blank ≡ run_blank l.bytes l.i l.start
