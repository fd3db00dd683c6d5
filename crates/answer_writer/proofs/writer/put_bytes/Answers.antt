use Rattle.std.proofs.Common.{◌+◌, ◌-◌, take, ap, ◌∙◌, arith}
use Rattle.answer_writer.proofs.Writing.{low_bytes, copied_put}
use Rattle.answer_writer.proofs.writer.put_bytes.Goals as goal

pub returns : goal.returns
returns c =
    let a = c.args in
    copied_put a.buffer.now a.at a.count (a.at + a.count - a.at) a.x (c.copy_from_slice.ensures.after ∙ ap (take a.count) c.to_le_bytes.ensures ∙ low_bytes a.count a.x c.requires.0) (omega arith)
