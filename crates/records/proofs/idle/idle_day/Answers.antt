use Rattle.std.proofs.Common.{sym}
use Rattle.definitions.proofs.IdleDay.{idle_bytes}
use Rattle.records.proofs.idle.idle_day.Goals as goal

pub returns : goal.returns
returns c = sym idle_bytes
