use Rattle.std.proofs.Common.{arith}
use Rattle.merging.proofs.Later.{back_rest}
use Rattle.merging.proofs.stamps.minutes_back.Goals as goal

pub returns : goal.returns
returns c = back_rest c.args.shift c.wrapping_neg.result c.requires (omega arith) (omega arith) c.wrapping_neg.ensures
