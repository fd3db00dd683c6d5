use mathlib.Core.Path.{sym, ap, ◌∙◌}
use Rattle.std.proofs.lemmas.Result.{err_from_is_err_and}
use Rattle.definitions.specs.ProblemRecord.{meant}
use Rattle.definitions.proofs.IdleDay.{meant_bytes}
use Rattle.records.specs.Refusals.{refused_by}
use Rattle.merging.proofs.Outcomes.{bytes_of, read_told, read_n_most, none_judged, refused_problem, refused_plans}
use Rattle.merging.proofs.merge.merge.Goals as goal

pub returns-in_err-layout : goal.returns-in_err-layout
returns-in_err-layout c = let p = err_from_is_err_and c.from_residual.result c.from_residual.ensures.1 in
    rw (p.1, p.2) (refused_problem _ _ _ _ c.read_problem.ensures.result c.in_err-layout.was)

pub judge_plans-requires : goal.judge_plans-requires
judge_plans-requires c = let read = read_told (meant_bytes _ (bytes_of c.type_inv.problem)) c.read_problem.ensures c.in_ok-layout.was in
    read_n_most read

pub returns-in_err-judge_plans : goal.returns-in_err-judge_plans
returns-in_err-judge_plans c = let read = read_told (meant_bytes _ (bytes_of c.type_inv.problem)) c.read_problem.ensures c.in_ok-layout.was in
    let p = err_from_is_err_and c.from_residual-in_err-judge_plans.result c.from_residual-in_err-judge_plans.ensures.1 in
    rw (p.1, p.2) (refused_plans _ _ _ _ read.within read.n_is c.judge_plans.ensures c.in_err-judge_plans.was)

pub merge_plans-requires : goal.merge_plans-requires
merge_plans-requires c = let read = read_told (meant_bytes _ (bytes_of c.type_inv.problem)) c.read_problem.ensures c.in_ok-layout.was in
    let none = none_judged _ _ _ _ (sym c.judge_plans.ensures ∙ ap refused_by c.in_ok-judge_plans.was) in
    record { problem = meant c.args.problem.now; read = read; first_fits = none.first_fits; second_fits = none.second_fits; room_enough = none.room_enough }

pub returns : goal.returns
returns c = let read = read_told (meant_bytes _ (bytes_of c.type_inv.problem)) c.read_problem.ensures c.in_ok-layout.was in
    c.merge_plans.ensures _ read
