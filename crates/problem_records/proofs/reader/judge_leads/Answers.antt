use Rattle.std.proofs.Common.{refl, sym, ◌∙◌, arith}
use Rattle.std.proofs.lemmas.Result.{err_from_is_err_and}
use Rattle.problem_records.proofs.ReadProblem.{refused_states, told_states, refused_lead, judged_told, leads_inside}
use Rattle.problem_records.proofs.reader.judge_leads.Goals as goal

pub returns-in_err-layout : goal.returns-in_err-layout
returns-in_err-layout c = let p = err_from_is_err_and c.from_residual.result c.from_residual.ensures.1 in
    rw (p.1, p.2) (refused_states _ _ c.in_err-layout.ensures refl)

pub overflow_add-layout : goal.overflow_add-layout
overflow_add-layout c = let h = told_states _ c.judge_states.ensures c.in_ok-layout.was in omega (arith, h.fits.m_most, h.fits.questions_most)

pub lead_count-count-requires : goal.lead_count-count-requires
lead_count-count-requires c = let h = told_states _ c.judge_states.ensures c.in_ok-layout.was in (h.fits.n_most, omega (arith, h.fits.m_most, h.fits.questions_most))

pub leads_fit-requires : goal.leads_fit-requires
leads_fit-requires c = leads_inside _ _ (told_states _ c.judge_states.ensures c.in_ok-layout.was) c.lead_count-count.ensures.0

pub returns-then-not-leads_fit : goal.returns-then-not-leads_fit
returns-then-not-leads_fit c = refused_lead _ _ (told_states _ c.judge_states.ensures c.in_ok-layout.was) c.lead_count-count.ensures.0
    (sym c.if-not-leads_fit.true ∙ c.leads_fit.ensures)

pub returns : goal.returns
returns c = judged_told _ _ (told_states _ c.judge_states.ensures c.in_ok-layout.was) c.lead_count-count.ensures.0
    (sym c.if-not-leads_fit.false ∙ c.leads_fit.ensures)
