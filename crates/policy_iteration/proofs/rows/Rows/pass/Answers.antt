use Prim.Native.Nat.{ℕ, ◌≤◌, ◌+◌, ◌*◌}
use mathlib.Core.List.{List}
use native.Mathlib.Omega.{arith}
use Rattle.policy_iteration.specs.Tables.{first_limit, turn_limit, Lows, Within}
use Rattle.policy_iteration.specs.Steps.{Passed}
use Rattle.policy_iteration.proofs.Rounds.{within_lows}
use Rattle.policy_iteration.proofs.Steps.{passed_none, passed_fails, passed_stands}
use Rattle.policy_iteration.proofs.rows.Rows.pass.Goals.{then-here-there, else-here-there}
use Rattle.policy_iteration.proofs.rows.Rows.pass.Goals as goal

-- The point is low at every turn.
lows : {left right x₀ picks₀ x picks : List ℕ} {width rows i failed : ℕ} → i ≤ 64
    → Passed left right width rows i x₀ picks₀ x picks failed → Within (first_limit + 64 * turn_limit) width x₀ → Lows width x
lows b p w = within_lows (omega arith) (p.within (first_limit + 64 * turn_limit) w)

pub loop-i-init : goal.loop-i-init
loop-i-init c = (omega arith, passed_none _ _ _ _ _ _ c.requires.size)

pub right_side-here-requires : goal.right_side-here-requires
right_side-here-requires c = let p = c.requires in (p.sides.right, omega arith, lows (omega (arith, p.sides.right.tables.rows_most)) c.loop-i.invariant.1 p.within)

pub left_side-there-requires : goal.left_side-there-requires
left_side-there-requires c = let p = c.requires in (p.sides, omega arith, lows (omega (arith, p.sides.right.tables.rows_most)) c.loop-i.invariant.1 p.within)

pub lower_by-requires : goal.lower_by-requires
lower_by-requires c = let p = c.requires in
    let t = p.sides.right.tables in
    let turn = c.loop-i in
    let here = c.right_side-here.ensures in (
      record { left_size = t.lefts.size; x_size = (lows (omega (arith, t.rows_most)) turn.invariant.1 p.within).size; picks_size = turn.invariant.1.size; row_most = omega (arith, t.rows_most) },
      p.sides.left_are.each _ (omega arith),
      here.most,
      here.least,
    )

pub loop-i-preserved : goal.loop-i-preserved
loop-i-preserved c = let a = c.args in
    let s = a.self.now in
    let t = c.requires.sides.right.tables in
    let turn = c.loop-i in
    let low = lows (omega (arith, t.rows_most)) turn.invariant.1 c.requires.within in
    elim c.if-here-there.branch [
      | then-here-there w ↦ rw (w.x-is, w.picks-is, w.failed-is) (omega (arith, turn.invariant.0), passed_fails s.left.now s.right.now s.width s.count turn.i t (omega arith) turn.x turn.picks low turn.invariant.1.size _ _ c.right_side-here.ensures c.left_side-there.ensures _ _ w.if-here-there.true w.lower_by.ensures turn.invariant.1)
      | else-here-there w ↦ rw (w.x-is, w.picks-is, w.failed-is) (omega (arith, turn.invariant.0), passed_stands s.left.now s.right.now s.width s.count turn.i t (omega arith) turn.x turn.picks low turn.invariant.1.size _ _ c.right_side-here.ensures c.left_side-there.ensures w.if-here-there.false turn.invariant.1)
    ]
