use mathlib.Core.Path.{sym}
use Rattle.policy_iteration.proofs.Fold.{folded_low, folded_high}
use Rattle.policy_iteration.proofs.values.fold.Goals as goal

pub returns-then-k-lt-FOLD : goal.returns-then-k-lt-FOLD
returns-then-k-lt-FOLD c = sym (folded_low _ c.if-k-lt-FOLD.true)

pub returns-else-k-lt-FOLD : goal.returns-else-k-lt-FOLD
returns-else-k-lt-FOLD c = sym (folded_high _ c.if-k-lt-FOLD.false)
