use Prim.Native.Nat.{◌-◌}
use Rattle.converter.proofs.Steps.{head_put}
use Rattle.converter.proofs.convert.Record.put_head.Goals as goal

pub returns : goal.returns
returns c = let a = c.args in
    head_put a.self.now.stored a.out.now (a.size - 4) a.left c.requires.0 c.put_word.ensures c.put_part.ensures c.put_short.ensures c.put_part-2.ensures
