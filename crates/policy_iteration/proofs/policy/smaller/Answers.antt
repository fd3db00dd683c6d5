use Rattle.policy_iteration.proofs.Lowering.{lesser_first, lesser_second}
use Rattle.policy_iteration.proofs.policy.smaller.Goals as goal

pub returns-then-a-b : goal.returns-then-a-b
returns-then-a-b c = search lesser_first

pub returns-else-a-b : goal.returns-else-a-b
returns-else-a-b c = search lesser_second
