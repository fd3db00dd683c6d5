use Rattle.grounds.proofs.Numbering.{slice_placed}
use Rattle.grounds.proofs.numbers.Numbers.of.Goals as goal

pub invariant_of-result : goal.invariant_of-result
invariant_of-result g c = slice_placed g.row.N c.args.numbers.now c.copy_from_slice.new.self c.requires c.copy_from_slice.ensures.after
