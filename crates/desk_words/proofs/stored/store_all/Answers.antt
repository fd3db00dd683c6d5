use native.Mathlib.Omega.{arith}
use Rattle.desk_words.proofs.Back.{all_none, all_more, all_end, all_told}
use Rattle.desk_words.proofs.stored.store_all.Goals as goal

pub loop-i-init : goal.loop-i-init
loop-i-init c = all_none _ _ _

pub loop-i-preserved : goal.loop-i-preserved
loop-i-preserved c = all_more c.loop-i.invariant c.loop-i-test.true c.store.ensures.0 c.store.ensures.1

pub returns : goal.returns
returns c = (all_end c.loop-i.invariant (omega (arith, c.loop-i-test.false)), all_told c.loop-i.invariant (omega (arith, c.loop-i-test.false)))
