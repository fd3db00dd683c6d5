use Rattle.policy_iteration.proofs.Lowering.{chosen_first, chosen_second}
use Rattle.policy_iteration.proofs.policy.choice.Goals as goal

pub returns-then-a-b : goal.returns-then-a-b
returns-then-a-b c = search chosen_first

pub returns-else-a-b : goal.returns-else-a-b
returns-else-a-b c = search chosen_second
