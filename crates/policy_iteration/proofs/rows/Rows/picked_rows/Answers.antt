use native.Mathlib.Omega.{arith}
use Rattle.base.proofs.Filled.{filled_none}
use Rattle.policy_iteration.proofs.Rounds.{cap_most}
use Rattle.policy_iteration.proofs.rows.Rows.picked_rows.Goals as goal

pub loop-j-init : goal.loop-j-init
loop-j-init c = (filled_none 32, filled_none 32)

pub picked-sum-requires : goal.picked-sum-requires
picked-sum-requires c = let p = c.requires in (p.0, omega (arith, cap_most p.3 c.loop-j.j (omega arith)), omega (arith, p.0.tables.width_most), p.2)
