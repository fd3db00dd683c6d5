use native.Mathlib.Omega.{arith}
use Rattle.policy_iteration.proofs.Places.{bits_none, bits_more, bits_fit}
use Rattle.policy_iteration.proofs.ends.bits_of.Goals as goal

pub loop-l-init : goal.loop-l-init
loop-l-init c = bits_none c.args.table.now c.args.row

pub overflow_add-bits : goal.overflow_add-bits
overflow_add-bits c = let a = c.args in
    let turn = c.loop-l in
    omega (arith, bits_fit a.table.now a.row turn.l turn.bits _ (omega arith) turn.invariant c.bit-bits.ensures)

pub loop-l-preserved : goal.loop-l-preserved
loop-l-preserved c = let a = c.args in
    let turn = c.loop-l in
    bits_more a.table.now a.row turn.l turn.bits _ turn.invariant c.bit-bits.ensures
