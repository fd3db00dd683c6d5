use Rattle.definitions.proofs.Inputs.{kept_whole}
use Rattle.checker.proofs.LongInputs.{kept_longer, long_past, long_cut, judged_long}
use lib.Seq.{length-take-le}
use mathlib.Core.Path.{sym, ap, ◌∙◌}
use native.Mathlib.Omega.{arith}
use Prim.Native.Nat.{◌+◌}
use Rattle.checker.proofs.input.judge_kept.Goals as goal

pub slice_bounds-judge_whole-end : goal.slice_bounds-judge_whole-end
slice_bounds-judge_whole-end c = sym (length-take-le _ _ (omega arith))

pub returns-then-size-le-KEPT : goal.returns-then-size-le-KEPT
returns-then-size-le-KEPT c = λ input k. rw (kept_whole k c.if-size-le-KEPT.true) c.judge_whole.ensures

pub returns-then-size-end : goal.returns-then-size-end
returns-then-size-end c = λ input k. long_past (kept_longer k c.if-size-le-KEPT.false) c.if-size-le-KEPT.false (rw c.word_at.ensures.0 at c.if-size-end.true)

pub returns : goal.returns
returns c = λ input k.
    let l = kept_longer k c.if-size-le-KEPT.false in
    judged_long input (omega (arith, l.size_is, c.if-size-le-KEPT.false)) (ap (λ e. e + 4) c.word_at.ensures.0 ∙ long_cut l c.if-size-le-KEPT.false (rw c.word_at.ensures.0 at c.if-size-end.false)) (c.judge_long.ensures input l)
