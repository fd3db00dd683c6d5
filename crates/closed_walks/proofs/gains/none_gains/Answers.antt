use Rattle.std.proofs.Common.{arith}
use Rattle.closed_walks.proofs.ClosedWalks.{tested_yes, tested_no, ended_whole, rounds_start, rounds_still, rounds_more, rounds_beyond, rounds_end}
use Rattle.closed_walks.proofs.gains.none_gains.Goals as goal

pub loop-init : goal.loop-init
loop-init c = (omega arith, omega (arith, c.requires.0.width_most), rounds_start _ _ _ c.requires.0)

pub returns-in_default : goal.returns-in_default
returns-in_default c = tested_no (rounds_beyond _ _ _ c.requires.0 c.loop.invariant.2 c.push_round.ensures c.in_default.is)

pub returns-then-not-moved : goal.returns-then-not-moved
returns-then-not-moved c = tested_yes (rounds_still _ _ _ c.requires.0 (ended_whole _ _ _ c.requires.0 c.push_round.ensures c.in-Some.is) c.if-not-moved.true)

pub loop-preserved : goal.loop-preserved
loop-preserved c = (
  omega arith,
  omega arith,
  rounds_more _ _ _ c.requires.0 c.loop.invariant.2
      (ended_whole _ _ _ c.requires.0 c.push_round.ensures c.in-Some.is)
      c.if-not-moved.false,
)

pub returns : goal.returns
returns c = tested_no (rounds_end _ _ _ c.requires.0 c.loop.invariant.2 (omega arith) c.requires.1)
