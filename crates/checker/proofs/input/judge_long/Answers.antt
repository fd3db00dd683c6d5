use Rattle.std.proofs.Common.{ap, sym, ◌∙◌, drop, arith}
use Rattle.std.proofs.lemmas.Result.{err_from_is_err_and}
use Rattle.std.proofs.lemmas.List.{length-take-le}
use Rattle.base.proofs.Lists.{rest_whole}
use Rattle.records.specs.ProblemHeader.{header_of}
use Rattle.records.proofs.Refusing.{number_range}
use Rattle.checker.proofs.Verdicts.{judged_problem, header_read}
use Rattle.checker.proofs.LongInputs.{kept_small, header_turned, long_problem_refused, problem_kept, long_answered}
use Rattle.checker.proofs.input.judge_long.Goals as goal

pub unwrap_err-requires : goal.unwrap_err-requires
unwrap_err-requires c = long_problem_refused _ _ _ (omega (arith, c.if-end-gt-KEPT.true)) c.read_header.ensures

pub returns-then-end-gt-KEPT : goal.returns-then-end-gt-KEPT
returns-then-end-gt-KEPT c = λ input l. header_turned l c.requires.2 c.unwrap_err.result (sym (ap header_of c.unwrap_err.ensures) ∙ c.read_header.ensures)

pub slice_bounds-judge_problem-end : goal.slice_bounds-judge_problem-end
slice_bounds-judge_problem-end c = sym (length-take-le _ _ (omega (arith, c.if-end-gt-KEPT.false)))

pub returns-in_err-layout : goal.returns-in_err-layout
returns-in_err-layout c = λ input l.
    let p = err_from_is_err_and c.from_residual.result c.from_residual.ensures.1 in
    rw (p.1, p.2, ← problem_kept l c.requires.2 c.requires.0 (omega (arith, c.if-end-gt-KEPT.false)))
    (judged_problem _ (drop c.args.end input) c.in_err-layout.field-0.0 c.in_err-layout.ensures)

pub slice_bounds-judge_long_answer-count : goal.slice_bounds-judge_long_answer-count
slice_bounds-judge_long_answer-count c = omega (arith, c.if-end-gt-KEPT.false)

pub slice_bounds-judge_long_answer-start : goal.slice_bounds-judge_long_answer-start
slice_bounds-judge_long_answer-start c = omega (arith, c.if-end-gt-KEPT.false)

pub judge_long_answer-requires : goal.judge_long_answer-requires
judge_long_answer-requires c = omega (arith, kept_small c.args.kept.now c.args.end (header_read _ c.judge_problem.ensures c.in_ok-layout.was) (omega (arith, c.if-end-gt-KEPT.false)))

pub returns : goal.returns
returns c = λ input l.
    let read = header_read _ c.judge_problem.ensures c.in_ok-layout.was in
    long_answered l c.requires.2 (rw (problem_kept l c.requires.2 c.requires.0 (omega (arith, c.if-end-gt-KEPT.false))) at read)
    (rw (rest_whole c.args.kept.now c.args.end) at c.judge_long_answer.ensures) (number_range c.judge_long_answer.result).0
