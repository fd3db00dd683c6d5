use Rattle.std.proofs.Common.{arith}
use Rattle.std.proofs.lemmas.Int.{to_z-of_z}
use Rattle.merging.proofs.Later.{forward_is}
use Rattle.merging.proofs.stamps.is_forward.Goals as goal

pub returns : goal.returns
returns c = grind (arith, to_z-of_z, forward_is, c.cast_signed.ensures)
