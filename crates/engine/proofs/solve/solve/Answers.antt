use mathlib.Core.Path.{refl}
use Rattle.std.proofs.lemmas.Result.{err_from_is_err_and}
use Rattle.engine.proofs.Outcomes.{refuses_problem}
use Rattle.engine.proofs.solve.solve.Goals as goal

pub returns-in_err-layout : goal.returns-in_err-layout
returns-in_err-layout c = let p = err_from_is_err_and c.from_residual.result c.from_residual.ensures.1 in
    rw (p.1, p.2) (refuses_problem c.in_err-layout.ensures refl)

pub solve_told-requires : goal.solve_told-requires
solve_told-requires c = c.read_layout.ensures.told _ c.in_ok-layout.was
