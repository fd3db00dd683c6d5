use Rattle.std.proofs.Common.{arith}
use Rattle.definitions.specs.Reasons.{no_number}
use Rattle.grounds.proofs.Picking.{listed_few, listed_with, listed_without, listed_end}
use Rattle.grounds.proofs.rules.picked_rules.Goals as goal
use Rattle.grounds.proofs.rules.picked_rules.Goals.{then-is_picked, else-is_picked}

pub loop-i-init : goal.loop-i-init
loop-i-init c = (omega arith, rw c.new-rules.ensures no_number)

pub push-requires : goal.push-requires
push-requires c = (omega arith, omega (arith, listed_few c.loop-i.invariant.1, c.requires.1))

pub loop-i-preserved : goal.loop-i-preserved
loop-i-preserved c = (
  omega arith,
  elim c.if-is_picked.branch [
    | then-is_picked w ↦ rw (w.rules-is, w.push.ensures) (listed_with c.loop-i.invariant.1 (c.is_picked.ensures.yes w.if-is_picked.true))
    | else-is_picked w ↦ rw w.rules-is (listed_without c.loop-i.invariant.1 (c.is_picked.ensures.no w.if-is_picked.false))
  ],
)

pub returns : goal.returns
returns c = listed_end c.loop-i.invariant.1 (omega arith) (omega arith)
