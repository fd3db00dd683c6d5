use mathlib.Core.Logic.{inl, inr}
use native.Mathlib.Omega.{arith}
use mathlib.Core.Path.{◌≡◌}
use Rattle.grounds.proofs.Sums.{latest_one, latest_next}
use borrow.Author.Rules.{rules}
use Rattle.grounds.proofs.latest.first_latest.Goals as goal
use Rattle.grounds.proofs.latest.first_latest.Goals.{then-sum-best, else-sum-best}

pub loop-l-init : goal.loop-l-init
loop-l-init c = (omega arith, omega arith, latest_one, search rules)

pub loop-l-preserved : goal.loop-l-preserved
loop-l-preserved c = let turn = c.loop-l in
    let next = latest_next turn.best c.sum_of-sum.result c.if-sum-best.at c.if-sum-best.best turn.invariant.2 turn.invariant.3 c.sum_of-sum.ensures (elim c.if-sum-best.branch [ then-sum-best w ↦ inl (w.if-sum-best.true, w.at-is, w.best-is) | else-sum-best w ↦ inr (omega (arith, w.if-sum-best.false), w.at-is, w.best-is) ]) in
    (omega arith, omega arith, next.0, next.1)

pub returns : goal.returns
returns c = let e : c.loop-l.l ≡ c.args.width = omega arith in rw e at c.loop-l.invariant.2
