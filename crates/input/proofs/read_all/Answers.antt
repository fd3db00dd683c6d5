use Rattle.std.proofs.Common.{arith, refl, ap, ◌∙◌}
use Rattle.std.specs.Prelude.{Ok}
use Rattle.input.specs.Came.{AllRead, at_end, enough}
use Rattle.input.proofs.Coming.{once_came}
use Rattle.input.proofs.Taking.{taken_none, taken_more, taken_end, taken_enough}
use Rattle.input.proofs.read_all.Goals as goal

pub loop-size-init : goal.loop-size-init
loop-size-init g c = (omega arith, taken_none _ _)

pub returns-in_err-n-clause-answered : goal.returns-in_err-n-clause-answered
returns-in_err-n-clause-answered g c = AllRead.broken _ c.from_residual.ensures.0

pub returns-then-n-eq0-clause-answered : goal.returns-then-n-eq0-clause-answered
returns-then-n-eq0-clause-answered g c =
    let o = once_came c.in_ok-n.ensures.answered refl in
    let t = taken_more c.loop-size.invariant.1 c.in_ok-n.ensures.taken.0 (omega arith) in
    AllRead.whole (record { came = t.came; ends = at_end o.answer (o.is ∙ ap Ok c.if-n-eq0.true); most = c.loop-size.invariant.0 })

pub returns-then-n-eq0-clause-taken : goal.returns-then-n-eq0-clause-taken
returns-then-n-eq0-clause-taken g c =
    taken_end _ _ c.told-kept (taken_more c.loop-size.invariant.1 c.in_ok-n.ensures.taken.0 (omega arith)) (c.in_ok-n.ensures.taken.1 c.if-n-eq0.true)

pub overflow_add-size : goal.overflow_add-size
overflow_add-size g c = omega (arith, (once_came c.in_ok-n.ensures.answered refl).few)

pub loop-size-preserved : goal.loop-size-preserved
loop-size-preserved g c =
    (omega (arith, (once_came c.in_ok-n.ensures.answered refl).few), taken_more c.loop-size.invariant.1 c.in_ok-n.ensures.taken.0 refl)

pub returns-clause-answered : goal.returns-clause-answered
returns-clause-answered g c = AllRead.whole (record { came = c.loop-size.invariant.1.came; ends = enough (omega arith); most = c.loop-size.invariant.0 })

pub returns-clause-taken : goal.returns-clause-taken
returns-clause-taken g c = taken_enough _ _ c.told-kept c.loop-size.invariant.1 (omega arith)
