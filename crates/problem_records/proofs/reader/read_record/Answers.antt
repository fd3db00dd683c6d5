use Rattle.std.proofs.Common.{◌-◌, ap, refl, arith, rules}
use Rattle.std.proofs.lemmas.Result.{err_from_is_err_and}
use Rattle.base.proofs.Lists.{rest_whole}
use Rattle.records.specs.ProblemHeader.{kind_number}
use Rattle.records.proofs.ProblemHeader.{not_states}
use Rattle.problem_records.proofs.ReadProblem.{told_of, told_framed, refused_read, problem_read, states_held, states_read}
use Rattle.problem_records.proofs.reader.read_record.Goals as goal

pub returns-in_err-layout : goal.returns-in_err-layout
returns-in_err-layout c = let p = err_from_is_err_and c.from_residual.result c.from_residual.ensures.1 in
    rw (p.1, p.2) (refused_read _ _ c.in_err-layout.ensures refl)

pub read_in_force-requires : goal.read_in_force-requires
read_in_force-requires c = let t = told_of _ c.judge_problem.ensures c.in_ok-layout.was in
    (states_held t (omega (arith, ap kind_number c.in-States.is)), search rules, search rules)

pub overflow_sub-behind : goal.overflow_sub-behind
overflow_sub-behind c = let t = told_of _ c.judge_problem.ensures c.in_ok-layout.was in omega (arith, t.fits.leads_least)

pub slice_bounds-behind-count : goal.slice_bounds-behind-count
slice_bounds-behind-count c = let t = told_of _ c.judge_problem.ensures c.in_ok-layout.was in omega (arith, t.fits.leads_least, t.fits.size_is)

pub slice_bounds-behind-start : goal.slice_bounds-behind-start
slice_bounds-behind-start c = let t = told_of _ c.judge_problem.ensures c.in_ok-layout.was in omega (arith, t.fits.leads_least, t.fits.size_is)

pub read_tables-requires : goal.read_tables-requires
read_tables-requires c = let t = told_of _ c.judge_problem.ensures c.in_ok-layout.was in
    rw (rest_whole c.args.bytes.now (c.in_ok-layout.layout.leads - 10)) (told_framed t (search rules) (search rules))

pub returns-in-States : goal.returns-in-States
returns-in-States c = let t = told_of _ c.judge_problem.ensures c.in_ok-layout.was in
    states_read t (omega (arith, ap kind_number c.in-States.is)) c.read_in_force.ensures c.in_ok-layout.ensures

pub returns-in-Problem : goal.returns-in-Problem
returns-in-Problem c = let t = told_of _ c.judge_problem.ensures c.in_ok-layout.was in
    problem_read t (rw (rest_whole c.args.bytes.now (c.in_ok-layout.layout.leads - 10)) at c.read_tables.ensures) (not_states c.in-Problem.is) c.in_ok-layout.ensures
