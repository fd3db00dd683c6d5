use Rattle.engine.proofs.Outcomes.{never_turned_away}
use Rattle.engine.proofs.Trials.{read_tables}
use Rattle.engine.proofs.one_trial.read_taken.Goals as goal

pub unwrap-requires : goal.unwrap-requires
unwrap-requires c = search never_turned_away

pub returns : goal.returns
returns c = search read_tables
