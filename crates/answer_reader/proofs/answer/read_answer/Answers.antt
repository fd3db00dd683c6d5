use Rattle.std.proofs.Common.{arith}
use Rattle.std.proofs.lemmas.Result.{err_from_is_err_and}
use Rattle.definitions.specs.Bytes.{Bytes}
use Rattle.answer_reader.proofs.Judging.{head_right, read_turned_away, read_refused, read_done}
use Rattle.answer_reader.proofs.answer.read_answer.Goals as goal

pub returns-in_err-head : goal.returns-in_err-head
returns-in_err-head c =
    let p = err_from_is_err_and c.from_residual.result c.from_residual.ensures.1 in
    rw (p.1, p.2) (read_turned_away _ _ _ c.read_answer_header.ensures c.in_err-head.was)

pub stamp_count-s-requires : goal.stamp_count-s-requires
stamp_count-s-requires c = (head_right _ _ _ c.read_answer_header.ensures c.in_ok-head.was).n_most

pub pick_count-p-requires : goal.pick_count-p-requires
pick_count-p-requires c = let h = head_right _ _ _ c.read_answer_header.ensures c.in_ok-head.was in (h.n_most, h.m_most)

pub stamps_from-read_stamps-requires : goal.stamps_from-read_stamps-requires
stamps_from-read_stamps-requires c = let h = head_right _ _ _ c.read_answer_header.ensures c.in_ok-head.was in (omega arith, omega arith)

pub picks_from-read_picks-requires : goal.picks_from-read_picks-requires
picks_from-read_picks-requires c = let h = head_right _ _ _ c.read_answer_header.ensures c.in_ok-head.was in (omega arith, omega arith)

pub judge_form-requires : goal.judge_form-requires
judge_form-requires c = let h = head_right _ _ _ c.read_answer_header.ensures c.in_ok-head.was in (h.n_most, h.m_most)

pub returns-in_err-judge_form : goal.returns-in_err-judge_form
returns-in_err-judge_form c =
    let p = err_from_is_err_and c.from_residual-in_err-judge_form.result c.from_residual-in_err-judge_form.ensures.1 in
    let b : Bytes c.args.bytes.now = record { byte = λ i. (c.type_inv.bytes i).fits } in
    rw (p.1, p.2)
    (read_refused b (head_right _ _ _ c.read_answer_header.ensures c.in_ok-head.was) c.stamp_count-s.ensures.0 c.pick_count-p.ensures.0 c.stamps_from-read_stamps.ensures c.picks_from-read_picks.ensures c.in_err-judge_form.ensures)

pub returns : goal.returns
returns c =
    let b : Bytes c.args.bytes.now = record { byte = λ i. (c.type_inv.bytes i).fits } in
    read_done b (head_right _ _ _ c.read_answer_header.ensures c.in_ok-head.was) c.stamp_count-s.ensures.0 c.pick_count-p.ensures.0 c.stamps_from-read_stamps.ensures c.picks_from-read_picks.ensures c.in_ok-judge_form.ensures
