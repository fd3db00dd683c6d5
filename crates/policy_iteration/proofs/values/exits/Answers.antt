use Rattle.base.proofs.Filled.{filled_none, filled_more, filled_end}
use native.Mathlib.Omega.{arith}
use Rattle.policy_iteration.proofs.Low.{filled_highs}
use Rattle.policy_iteration.proofs.Rounds.{exit_not, exit_cap}
use Rattle.policy_iteration.proofs.values.exits.Goals.{then-picks-j, else-picks-j}
use Rattle.policy_iteration.proofs.values.exits.Goals as goal

pub loop-j-init : goal.loop-j-init
loop-j-init c = filled_none 32

pub loop-j-preserved : goal.loop-j-preserved
loop-j-preserved c = filled_more c.loop-j.invariant (omega arith) (elim c.if-picks-j.branch [
  | then-picks-j w ↦ rw w.out-is (exit_not c.args.caps.now c.args.width c.loop-j.j (omega arith))
  | else-picks-j w ↦ rw w.out-is (exit_cap c.args.caps.now c.args.width c.loop-j.j (omega arith) (c.requires.0.whole _ (omega arith)))
])

pub returns : goal.returns
returns c = filled_highs (filled_end c.loop-j.invariant (omega arith) (omega arith))
