use native.Mathlib.Omega.{arith}
use Rattle.base.proofs.Filled.{filled_none}
use Rattle.policy_iteration.proofs.Rounds.{picked_fits, round_end}
use Rattle.policy_iteration.proofs.rows.Rows.round_from.Goals as goal

pub loop-j-init : goal.loop-j-init
loop-j-init c = filled_none 32

pub given-requires : goal.given-requires
given-requires c = let a = c.args in
    let s = a.self.now in
    let rows = c.picked_rows-picked in
    rw c.fold.ensures (picked_fits s.left.now s.right.now a.caps.now a.picks.now a.x.now s.width s.count c.requires.0.tables c.requires.3 rows.result.sums rows.result.lefts rows.ensures.0 rows.ensures.1 _)

pub returns : goal.returns
returns c = let a = c.args in
    let s = a.self.now in
    let rows = c.picked_rows-picked in
    round_end s.left.now s.right.now a.caps.now a.picks.now a.x.now s.width s.count c.requires.0.tables c.requires.3 rows.result.sums rows.result.lefts rows.ensures.0 rows.ensures.1 c.loop-j.invariant (omega arith) (omega arith)
