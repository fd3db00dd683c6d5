use Rattle.std.proofs.lemmas.Result.{err_from_is_err_and}
use Rattle.answer_writer.proofs.Trips.{read_right, again_refused, again_written}
use Rattle.answer_writer.proofs.roundtrip.read_then_write.Goals as goal

pub returns-in_err-head : goal.returns-in_err-head
returns-in_err-head c =
    let p = err_from_is_err_and c.from_residual.result c.from_residual.ensures.1 in
    rw (p.1, p.2) (again_refused c.read_answer.ensures _ c.in_err-head.was)

pub stamp_count-s-requires : goal.stamp_count-s-requires
stamp_count-s-requires c = (read_right c.read_answer.ensures c.in_ok-head.was).n_most

pub pick_count-p-requires : goal.pick_count-p-requires
pick_count-p-requires c = let h = read_right c.read_answer.ensures c.in_ok-head.was in (h.n_most, h.m_most)

pub returns : goal.returns
returns c =
    again_written c.read_answer.ensures c.in_ok-head.was (record { byte = λ i. (c.type_inv.bytes i).fits })
    (rw (← c.stamp_count-s.ensures.0, ← c.pick_count-p.ensures.0) c.write_answer.ensures)
