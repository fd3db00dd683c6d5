use Rattle.std.proofs.Common.{refl, sym, ◌∙◌}
use Rattle.std.proofs.lemmas.Result.{err_from_is_err_and}
use Rattle.problem_records.proofs.ReadProblem.{refused_leads, leads_told, refused_silent, speaking_told, rules_inside}
use Rattle.problem_records.proofs.reader.judge_problem.Goals as goal

pub returns-in_err-layout : goal.returns-in_err-layout
returns-in_err-layout c = let p = err_from_is_err_and c.from_residual.result c.from_residual.ensures.1 in
    rw (p.1, p.2) (refused_leads _ _ c.in_err-layout.ensures refl)

pub some_silent-requires : goal.some_silent-requires
some_silent-requires c = rules_inside (leads_told _ c.judge_leads.ensures c.in_ok-layout.was)

pub returns-then-some_silent : goal.returns-then-some_silent
returns-then-some_silent c = refused_silent (leads_told _ c.judge_leads.ensures c.in_ok-layout.was) (sym c.if-some_silent.true ∙ c.some_silent.ensures)

pub returns : goal.returns
returns c = speaking_told (leads_told _ c.judge_leads.ensures c.in_ok-layout.was) (sym c.if-some_silent.false ∙ c.some_silent.ensures)
