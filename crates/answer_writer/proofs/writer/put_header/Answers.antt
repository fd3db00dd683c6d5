use Rattle.answer_writer.proofs.Writing.{header_put}
use Rattle.answer_writer.proofs.writer.put_header.Goals as goal

pub returns : goal.returns
returns c = header_put _ _ _ _ c.requires c.offset.ensures.0 c.put_word.ensures c.put_short.ensures c.put_short-2.ensures c.put_short-3.ensures c.put_word-2.ensures c.put_short-4.ensures
