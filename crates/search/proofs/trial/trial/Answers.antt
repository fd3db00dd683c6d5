use Rattle.search.proofs.Trials.{compared}
use Rattle.search.proofs.trial.trial.Goals as goal

pub returns : goal.returns
returns c = compared c.args.second c.args.t
