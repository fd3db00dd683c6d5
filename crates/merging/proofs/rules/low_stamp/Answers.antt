use Rattle.merging.proofs.Rows.{low_is}
use Rattle.merging.proofs.rules.low_stamp.Goals as goal

pub returns : goal.returns
returns c = rw c.saturating_sub.ensures (low_is c.args.stamp c.requires)
