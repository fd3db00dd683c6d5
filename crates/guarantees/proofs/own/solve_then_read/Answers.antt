use mathlib.Core.Path.{sym, ap, ◌∙◌}
use lib.Seq.{length-take-le}
use Rattle.std.specs.Prelude.{Ok}
use Rattle.std.proofs.lemmas.Result.{err_from_is_err_and}
use Rattle.guarantees.proofs.OwnAnswers.{own_refused, own_inside, own_reading, own_several}
use Rattle.guarantees.proofs.own.solve_then_read.Goals as goal

pub returns-in_err-one : goal.returns-in_err-one
returns-in_err-one c =
    let p = err_from_is_err_and c.from_residual.result c.from_residual.ensures.1 in
    rw (p.1, p.2) ((own_refused c.solve.ensures.solves c.in_err-one.was).1 _ _)

pub slice_bounds-read_own-end : goal.slice_bounds-read_own-end
slice_bounds-read_own-end c = own_inside c.solve.ensures.solves (c.in_ok-one.was ∙ ap Ok c.in-One.is)

pub slice_bounds-read_own-end-in-One : goal.slice_bounds-read_own-end-in-One
slice_bounds-read_own-end-in-One c = sym (length-take-le _ _ (own_inside c.solve.ensures.solves (c.in_ok-one.was ∙ ap Ok c.in-One.is)))

pub returns-in-One : goal.returns-in-One
returns-in-One c = own_reading c.solve.ensures.solves (c.in_ok-one.was ∙ ap Ok c.in-One.is) _ c.read_own.ensures

pub returns-in-All : goal.returns-in-All
returns-in-All c = (own_several c.solve.ensures.solves (c.in_ok-one.was ∙ ap Ok c.in-All.is)).1 _ _
