use native.Mathlib.Omega.{arith}
use Rattle.base.proofs.Filled.{filled_end}
use Rattle.problem_records.proofs.reader.leads_of.Goals as goal

pub returns-then-n-eq-HIGHEST_N : goal.returns-then-n-eq-HIGHEST_N
returns-then-n-eq-HIGHEST_N c = filled_end c.row_of.ensures (omega (arith, c.if-n-eq-HIGHEST_N.true)) (omega (arith, c.if-n-eq-HIGHEST_N.true))
