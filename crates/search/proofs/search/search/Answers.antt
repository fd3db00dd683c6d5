use Rattle.search.specs.Trials.{FoundBy}
use Rattle.search.proofs.search.search.Goals as goal

pub returns-then-not-trial : goal.returns-then-not-trial
returns-then-not-trial c = FoundBy.none (c.trial.ensures.no c.if-not-trial.true)

pub returns-then-trial : goal.returns-then-trial
returns-then-trial c = FoundBy.bottomless (c.trial-2.ensures.yes c.if-trial.true)
