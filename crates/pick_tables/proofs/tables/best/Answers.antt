use Rattle.pick_tables.proofs.Shown.{highest_end}
use Rattle.pick_tables.proofs.tables.best.Goals as goal

pub returns : goal.returns
returns c = search highest_end
