use mathlib.Core.Path.{refl}
use Rattle.std.proofs.lemmas.Result.{err_from_is_err_and}
use Rattle.engine.proofs.Trials.{begun_fresh, begun_refused}
use Rattle.engine.proofs.one_trial.begin.Goals as goal

pub returns-in_err-layout : goal.returns-in_err-layout
returns-in_err-layout c = let p = err_from_is_err_and c.from_residual.result c.from_residual.ensures.1 in
    rw (p.1, p.2) (begun_refused c.in_err-layout.ensures refl)

pub returns : goal.returns
returns c = begun_fresh c.read_layout.ensures c.in_ok-layout.was c.not_tried.ensures
