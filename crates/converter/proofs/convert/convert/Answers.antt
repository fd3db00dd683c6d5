use native.Mathlib.Omega.{arith}
use Rattle.std.proofs.lemmas.Result.{err_from_is_err_and}
use Rattle.definitions.specs.ProblemRecord.{converter_kinds}
use Rattle.problem_records.proofs.ReadProblem.{leads_told}
use Rattle.converter.proofs.Steps.{stored_of, size_is}
use Rattle.converter.proofs.Answers.{refuses_stored, refuses_room, converts}
use Rattle.converter.proofs.convert.convert.Goals as goal

pub returns-in_err-layout : goal.returns-in_err-layout
returns-in_err-layout c = let p = err_from_is_err_and c.from_residual.result c.from_residual.ensures.1 in
    rw (p.1, p.2) (refuses_stored _ _ c.judge_leads.ensures c.in_err-layout.was)

pub invariant_of-record : goal.invariant_of-record
invariant_of-record c = record { stored = stored_of (leads_told converter_kinds c.judge_leads.ensures c.in_ok-layout.was) }

pub returns-then-out-size : goal.returns-then-out-size
returns-then-out-size c = let t = leads_told converter_kinds c.judge_leads.ensures c.in_ok-layout.was in
    refuses_room _ _ t (size_is (stored_of t) c.rules_left-left.ensures.0 c.size_left-size.ensures.0) (omega arith)

pub put-requires : goal.put-requires
put-requires c = let t = leads_told converter_kinds c.judge_leads.ensures c.in_ok-layout.was in
    let left = c.rules_left-left.ensures.0 in
    (left, size_is (stored_of t) left c.size_left-size.ensures.0, omega arith)

pub returns : goal.returns
returns c = let t = leads_told converter_kinds c.judge_leads.ensures c.in_ok-layout.was in
    converts _ _ t (size_is (stored_of t) c.rules_left-left.ensures.0 c.size_left-size.ensures.0) (omega arith) c.put.ensures
