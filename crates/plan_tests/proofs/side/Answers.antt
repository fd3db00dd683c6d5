use Rattle.plan_tests.proofs.Sides.{best_floor, side_none, side_some}
use Rattle.plan_tests.specs.Sides.{stamp_drop, run, side_of}
use mathlib.Core.Path.{sym, ap, ◌∙◌}
use native.Mathlib.Omega.{arith}
use Prim.Native.Nat.{◌+◌, ◌-◌}
use Rattle.plan_tests.proofs.side.Goals as goal

pub overflow_sub-result : goal.overflow_sub-result
overflow_sub-result c = omega (arith, c.offset_32-largest.ensures.0, c.best.ensures.is, best_floor (run c.args.bytes.now c.args.at) c.args.x.now (c.args.n + 1))

pub returns-then-largest : goal.returns-then-largest
unfolding side_of
returns-then-largest c = sym (side_none (sym (c.offset_32-largest.ensures.0 ∙ c.best.ensures.is) ∙ c.if-largest.true))

pub returns-else-largest : goal.returns-else-largest
unfolding side_of
returns-else-largest c = let is = c.offset_32-largest.ensures.0 ∙ c.best.ensures.is in
    ap (λ k. k - stamp_drop) is ∙ sym (side_some (λ e. c.if-largest.false (is ∙ e)))
