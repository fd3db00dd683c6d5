use Rattle.counting.proofs.Posing.{header_put}
use Rattle.counting.proofs.small.put_head.Goals as goal

pub returns : goal.returns
returns c = header_put c.args.buffer.now c.args.n c.args.m c.args.leads c.requires.0 c.requires.1
    c.put_word.ensures
    c.put_short.ensures
    c.put_short-2.ensures
    c.put_short-3.ensures
