use Rattle.reach.proofs.Marks.{anchor_marked}
use Rattle.reach.proofs.anchor.Goals as goal

pub returns : goal.returns
returns c = anchor_marked
