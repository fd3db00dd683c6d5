use Rattle.std.proofs.Common.{arith}
use Rattle.base.proofs.Numbers.{one_more}
use Rattle.grounds.proofs.rules.is_picked.Goals as goal
use Rattle.grounds.proofs.rules.is_picked.Goals.{else-marks-j-ne0-via-then-marks-j-ne0+else-picks-j, else-marks-j-ne0-via-else-marks-j-ne0}

pub loop-j-preserved : goal.loop-j-preserved
loop-j-preserved c = (
  omega arith,
  one_more _ c.loop-j.invariant.1 (λ m e. elim c.else-marks-j-ne0.branch [
    | else-marks-j-ne0-via-then-marks-j-ne0+else-picks-j w ↦ w.if-picks-j.false e
    | else-marks-j-ne0-via-else-marks-j-ne0 w ↦ omega arith
  ]),
)
