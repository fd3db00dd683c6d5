use mathlib.Core.Path.{◌≡◌}
use Rattle.policy_iteration.specs.Ends.{bits_in}
use Rattle.policy_iteration.proofs.ends.bits_of.Given as goal

abbrev pub invariant-loop-l : goal.invariant-loop-l
invariant-loop-l l = l.bits ≡ bits_in l.table l.row l.l
