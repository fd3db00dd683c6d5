use Rattle.records.proofs.Tests.{tests}
use Rattle.grounds.specs.Reached.{pick_arc}
use Rattle.grounds.proofs.reached.pick_arc.Goals as goal

pub returns-then-pick-eq0 : goal.returns-then-pick-eq0
unfolding pick_arc
returns-then-pick-eq0 c = search tests

pub returns : goal.returns
unfolding pick_arc
returns c = search tests
