use Rattle.std.proofs.Common.{◌≡◌}
use Rattle.problem_records.specs.Tables.{run_fits}
use Rattle.problem_records.proofs.reader.leads_fit.Given as goal

abbrev pub invariant-loop-i : goal.invariant-loop-i
invariant-loop-i l = l.fit ≡ run_fits l.bytes l.i l.start
