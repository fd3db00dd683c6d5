use Rattle.std.proofs.Common.{refl, sym, ◌∙◌}
use Rattle.std.proofs.lemmas.Result.{err_from_is_err_and}
use Rattle.records.proofs.ProblemHeader.{header_fits}
use Rattle.problem_records.proofs.ReadProblem.{refused_header, refused_state, states_told}
use Rattle.problem_records.proofs.reader.judge_states.Goals as goal

pub returns-in_err-layout : goal.returns-in_err-layout
returns-in_err-layout c = let p = err_from_is_err_and c.from_residual.result c.from_residual.ensures.1 in
    rw (p.1, p.2) (refused_header _ _ c.in_err-layout.ensures refl)

pub states_wrong-requires : goal.states_wrong-requires
states_wrong-requires c = (header_fits _ _ _ c.read_header.ensures c.in_ok-layout.was).m_most

pub returns-then-states_wrong : goal.returns-then-states_wrong
returns-then-states_wrong c = refused_state (header_fits _ _ _ c.read_header.ensures c.in_ok-layout.was) (sym c.if-states_wrong.true ∙ c.states_wrong.ensures)

pub returns : goal.returns
returns c = states_told (header_fits _ _ _ c.read_header.ensures c.in_ok-layout.was) (sym c.if-states_wrong.false ∙ c.states_wrong.ensures)
