use Rattle.std.proofs.Common.{arith}
use Rattle.closed_walks.proofs.ClosedWalks.{pushing_none, pushing_held, pushing_row, pushing_turn, pushing_all}
use Rattle.closed_walks.proofs.Order.{past_none, past_more}
use Rattle.closed_walks.specs.GainRound.{finished, stopped}
use Rattle.closed_walks.proofs.gains.push_round.Goals as goal
use Rattle.closed_walks.proofs.gains.push_round.Goals.{then-done-j, else-done-j}

pub loop-j-init : goal.loop-j-init
loop-j-init c = rw (past_none c.args.order.now.places) (pushing_none _ _ _ c.requires.0 c.requires.1)

pub returns-then-by-gt-VALUE_LIMIT : goal.returns-then-by-gt-VALUE_LIMIT
returns-then-by-gt-VALUE_LIMIT c = let o = c.args.order.now in
    let e = c.variables-j-items.ensures.1 c.loop-j.j-index (omega arith) in
    stopped c.loop-j.invariant (rw (← e) at (o.ordered.inside c.loop-j.j-index (omega arith))) (omega (arith, c.if-by-gt-VALUE_LIMIT.true))

pub loop-j-preserved : goal.loop-j-preserved
loop-j-preserved c = let o = c.args.order.now in
    let e = c.variables-j-items.ensures.1 c.loop-j.j-index (omega arith) in
    let inside = rw (← e) at (o.ordered.inside c.loop-j.j-index (omega arith)) in
    let marked = rw (← e) at (o.ordered.marked c.loop-j.j-index (omega arith)) in
    let at = rw (← e) at (pushing_turn _ _ _ c.requires.0 o.ordered c.loop-j.invariant (omega arith)) in
    rw (past_more o.places c.loop-j.j-index, ← e) (elim c.if-done-j.branch [
      | then-done-j w ↦ rw (w.values-is, w.done-is, w.moved-is) (pushing_row _ _ _ c.requires.0 at inside (λ z. omega (arith, marked)) (omega arith) w.push.ensures (omega (arith, w.if-done-j.true)))
      | else-done-j w ↦ rw (w.values-is, w.done-is, w.moved-is) (pushing_held _ _ _ c.requires.0 at inside w.if-done-j.false)
    ])

pub returns : goal.returns
returns c = finished (pushing_all _ _ _ c.requires.0 c.args.order.now.ordered c.loop-j.invariant (omega arith))
