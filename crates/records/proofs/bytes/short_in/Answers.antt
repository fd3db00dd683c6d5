use Rattle.std.proofs.Common.{rules}
use Rattle.definitions.specs.Bytes.{num_at}
use Rattle.records.proofs.bytes.short_in.Goals as goal

pub returns : goal.returns
unfolding num_at
returns c = search rules
