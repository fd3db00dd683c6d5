use native.Mathlib.Omega.{arith}
use Rattle.policy_iteration.proofs.Rounds.{level_start, level_more, level_lows, level_still, level_last, same_highs}
use Rattle.policy_iteration.proofs.Low.{highs_size}
use Rattle.policy_iteration.proofs.rows.Rows.evaluate.Goals as goal

pub loop-turn-init : goal.loop-turn-init
loop-turn-init c = let a = c.args in let s = a.self.now in level_start s.left.now s.right.now a.caps.now a.picks.now _ s.width s.count c.exits-x.ensures

pub round_from-y-requires : goal.round_from-y-requires
round_from-y-requires c = let a = c.args in let s = a.self.now in let p = c.requires in
    (p.0, p.1, level_lows s.left.now s.right.now a.caps.now a.picks.now c.loop-turn.x s.width s.count _ p.0.tables p.2 (omega arith) c.loop-turn.invariant, p.2)

pub same-requires : goal.same-requires
same-requires c = (highs_size c.loop-turn.x 32 c.loop-turn.invariant.size_is, highs_size c.round_from-y.result 32 c.round_from-y.ensures.size_is)

pub returns-then-same : goal.returns-then-same
returns-then-same c = let a = c.args in let s = a.self.now in
    level_still s.left.now s.right.now a.caps.now a.picks.now _ _ s.width s.count _ (omega arith) c.loop-turn.invariant c.round_from-y.ensures (same_highs s.width c.loop-turn.x c.round_from-y.result (λ j h. c.same.ensures c.if-same.true j (omega (arith, c.requires.0.tables.width_most))))

pub loop-turn-preserved : goal.loop-turn-preserved
loop-turn-preserved c = let a = c.args in let s = a.self.now in
    level_more s.left.now s.right.now a.caps.now a.picks.now _ _ s.width s.count _ c.loop-turn.invariant c.round_from-y.ensures

pub returns : goal.returns
returns c = let a = c.args in let s = a.self.now in
    level_last s.left.now s.right.now a.caps.now a.picks.now _ s.width s.count _ (omega arith) (omega arith) c.loop-turn.invariant
