use Rattle.engine.proofs.Trials.{looked_kept, looked_new}
use Rattle.engine.proofs.one_trial.looked.Goals as goal

pub returns-then-pending-ne0 : goal.returns-then-pending-ne0
returns-then-pending-ne0 c = looked_kept c.args.problem.now (record { byte = λ i. (c.type_inv.problem i).fits }) c.requires c.if-pending-ne0.true

pub returns : goal.returns
returns c = search looked_new
