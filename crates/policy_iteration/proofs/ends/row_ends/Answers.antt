use native.Mathlib.Omega.{arith}
use Rattle.policy_iteration.proofs.Places.{ends_blank}
use Rattle.policy_iteration.proofs.ends.row_ends.Goals as goal

pub returns-then-bits-eq0 : goal.returns-then-bits-eq0
returns-then-bits-eq0 c = let a = c.args in ends_blank a.table.now a.row _ _ (omega arith) (omega arith) c.bits_of-bits.ensures c.if-bits-eq0.true
