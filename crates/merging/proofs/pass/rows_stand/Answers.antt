use native.Mathlib.Omega.{arith}
use Rattle.merging.proofs.Passing.{stand_more, stand_not, stand_all}
use Rattle.merging.proofs.pass.rows_stand.Goals as goal

pub loop-i-preserved : goal.loop-i-preserved
loop-i-preserved c = let a = c.args in stand_more a.x.now a.rows.now.count c.right_side.ensures c.left_side.ensures (λ l. omega arith) c.loop-i.invariant

pub returns : goal.returns
returns c = stand_all c.loop-i.invariant (omega arith)

pub returns-then-right_side-left_side : goal.returns-then-right_side-left_side
returns-then-right_side-left_side c = let a = c.args in stand_not a.x.now a.rows.now.count c.right_side.ensures c.left_side.ensures (omega arith) c.if-right_side-left_side.true
