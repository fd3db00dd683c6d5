use Rattle.std.proofs.Common.{sym, ◌∙◌, arith}
use Rattle.std.proofs.lemmas.Result.{err_from_is_err_and}
use Rattle.answer_writer.proofs.Writing.{counts_limits, counts_refused, counts_then_judged, roomy, write_refused, write_done}
use Rattle.answer_writer.proofs.writer.write_answer.Goals as goal

pub returns-in_err-judge_counts : goal.returns-in_err-judge_counts
returns-in_err-judge_counts c =
    let a = c.args in
    let p = err_from_is_err_and c.from_residual.result c.from_residual.ensures.1 in
    rw (p.1, p.2) (write_refused a.head a.stamps.now a.picks.now a.n a.m _ (counts_refused a.head a.stamps.now a.picks.now a.n a.m _ _ c.in_err-judge_counts.ensures))

pub judge_form-requires : goal.judge_form-requires
judge_form-requires c = let h = counts_limits _ _ _ _ _ _ _ c.in_ok-judge_counts.ensures in (omega (arith, h.0), omega (arith, h.1))

pub returns-in_err-judge_form : goal.returns-in_err-judge_form
returns-in_err-judge_form c =
    let a = c.args in
    let p = err_from_is_err_and c.from_residual-in_err-judge_form.result c.from_residual-in_err-judge_form.ensures.1 in
    rw (p.1, p.2) (write_refused a.head a.stamps.now a.picks.now a.n a.m _ (counts_then_judged a.head a.stamps.now a.picks.now a.n a.m _ c.in_ok-judge_counts.ensures c.in_err-judge_form.ensures (omega arith) (omega arith)))

pub answer_size-size-requires : goal.answer_size-size-requires
answer_size-size-requires c = counts_limits _ _ _ _ _ _ _ c.in_ok-judge_counts.ensures

pub put_record-requires : goal.put_record-requires
put_record-requires c =
    let a = c.args in
    let h = roomy a.head a.stamps.now a.picks.now a.n a.m _ (sym (counts_then_judged a.head a.stamps.now a.picks.now a.n a.m _ c.in_ok-judge_counts.ensures c.in_ok-judge_form.ensures (omega arith) (omega arith))) in
    (h.size_is ∙ sym c.answer_size-size.ensures.0, omega (arith, h.size_fits, c.answer_size-size.ensures.0))

pub returns : goal.returns
returns c =
    let a = c.args in
    write_done a.head a.stamps.now a.picks.now a.n a.m (counts_then_judged a.head a.stamps.now a.picks.now a.n a.m _ c.in_ok-judge_counts.ensures c.in_ok-judge_form.ensures (omega arith) (omega arith)) c.answer_size-size.ensures.0 c.put_record.ensures
