use Rattle.printing.proofs.Copy.{part_put}
use Rattle.printing.proofs.text.copy.Goals as goal

pub returns : goal.returns
returns c = part_put c.copy_from_slice.ensures.after c.requires
