use Rattle.std.proofs.Common.{sym, length-take-le}
use Rattle.std.proofs.lemmas.Result.{err_from_is_err_and}
use Rattle.answer_writer.proofs.Trips.{front, back_refused, back_read}
use Rattle.answer_writer.proofs.roundtrip.write_then_read.Goals as goal

pub returns-in_err-size : goal.returns-in_err-size
returns-in_err-size c =
    let p = err_from_is_err_and c.from_residual.result c.from_residual.ensures.1 in
    rw (p.1, p.2) (back_refused c.args.head _ _ _ _ c.write_answer.ensures c.in_err-size.was)

pub slice_bounds-read_answer-end : goal.slice_bounds-read_answer-end
slice_bounds-read_answer-end c = (front c.args.head c.args.stamps.now _ _ _ c.write_answer.ensures c.in_ok-size.was).inside

pub slice_bounds-read_answer-end-2 : goal.slice_bounds-read_answer-end-2
slice_bounds-read_answer-end-2 c = sym (length-take-le _ _ (front c.args.head c.args.stamps.now _ _ _ c.write_answer.ensures c.in_ok-size.was).inside)

pub returns : goal.returns
returns c = back_read c.args.head _ _ _ _ c.write_answer.ensures c.in_ok-size.was c.read_answer.ensures
