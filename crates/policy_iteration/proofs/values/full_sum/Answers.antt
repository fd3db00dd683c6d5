use mathlib.Core.Path.{◌∙◌}
use native.Mathlib.Omega.{arith}
use Rattle.base.proofs.Numbers.{uppermost_none}
use Rattle.policy_iteration.specs.Rounds.{sums}
use Rattle.policy_iteration.proofs.Fold.{uppermost_field, field_back, low_fits, sum_most, side_end}
use Rattle.policy_iteration.proofs.values.full_sum.Goals as goal

pub loop-l-init : goal.loop-l-init
loop-l-init c = (field_back 0 _ (omega arith) c.offset_32-best.ensures.0 ∙ uppermost_none _, omega arith)

pub offset_32-requires : goal.offset_32-requires
offset_32-requires c = low_fits c.args.x.now c.requires.3.ranged _

pub offset_added-requires : goal.offset_added-requires
offset_added-requires c = let a = c.args in
    let l = c.loop-l.l in
    let e = field_back _ _ (low_fits a.x.now c.requires.3.ranged l) c.offset_32.ensures.0 in
    (c.offset_32.ensures.1, omega (arith, e, sum_most a.table.now a.x.now c.requires.2 c.requires.3.ranged a.row l))

pub loop-l-preserved : goal.loop-l-preserved
loop-l-preserved c = let a = c.args in
    let turn = c.loop-l in
    let e = field_back _ _ (low_fits a.x.now c.requires.3.ranged turn.l) c.offset_32.ensures.0 in
    (uppermost_field (sums a.table.now a.row a.x.now) turn.l _ _ _ turn.invariant.0 (omega (arith, e, c.offset_added.ensures.0)) c.later-best.ensures.0, c.later-best.ensures.1)

pub returns : goal.returns
returns c = let a = c.args in
    let turn = c.loop-l in
    side_end a.table.now a.row a.x.now a.width c.requires.2 c.requires.3 c.requires.1 turn.l _ (omega arith) (omega arith) (c.offset_32-2.ensures.0 ∙ turn.invariant.0)
