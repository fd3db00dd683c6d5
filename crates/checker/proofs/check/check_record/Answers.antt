use Rattle.std.proofs.Common.{ap}
use Rattle.std.proofs.lemmas.Result.{err_from_is_err_and}
use Rattle.definitions.specs.Bytes.{Bytes}
use Rattle.records.specs.ProblemHeader.{kind_number}
use Rattle.records.proofs.ProblemHeader.{not_states}
use Rattle.problem_records.proofs.ReadProblem.{laid, told_of, states_held}
use Rattle.checker.proofs.Verdicts.{judged_problem, header_read, judged_answer}
use Rattle.checker.proofs.check.check_record.Goals as goal

pub returns-in_err-layout : goal.returns-in_err-layout
returns-in_err-layout c = let p = err_from_is_err_and c.from_residual.result c.from_residual.ensures.1 in
    rw (p.1, p.2) (judged_problem _ _ c.in_err-layout.field-0.0 c.in_err-layout.ensures)

pub check_in_force-requires : goal.check_in_force-requires
check_in_force-requires c = states_held (told_of _ c.judge_problem.ensures c.in_ok-layout.was) (ap kind_number c.in-States.is)

pub returns-in-States : goal.returns-in-States
returns-in-States c = judged_answer _ _ (header_read _ c.judge_problem.ensures c.in_ok-layout.was) c.check_in_force.ensures

pub invariant_of-rows : goal.invariant_of-rows
invariant_of-rows c = let bytes : Bytes c.args.problem.now = record { byte = λ i. (c.type_inv.problem i).fits } in
    record { laid = laid bytes c.judge_problem.ensures c.in_ok-layout.was (not_states c.in-Problem.is) }

pub returns-in-Problem : goal.returns-in-Problem
returns-in-Problem c = judged_answer _ _ (header_read _ c.judge_problem.ensures c.in_ok-layout.was) c.check_answer.ensures
