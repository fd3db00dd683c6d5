use Rattle.base.proofs.Lists.{rest_whole}
use Rattle.checker.proofs.LongInputs.{judged_parts}
use lib.Seq.{length-take-le}
use mathlib.Core.Path.{sym}
use Rattle.checker.proofs.input.judge_whole.Goals as goal

pub slice_bounds-check-end : goal.slice_bounds-check-end
slice_bounds-check-end c = sym (length-take-le _ _ c.cut_place-cut.ensures.inside)

pub returns : goal.returns
returns c = judged_parts _ c.cut_place-cut.ensures.place (rw (rest_whole c.args.input.now c.cut_place-cut.result) at c.check.ensures)
