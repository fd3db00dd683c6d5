use Rattle.std.proofs.Common.{◌≤◌}
use Rattle.definitions.specs.Reasons.{Listed}
use Rattle.grounds.specs.Rules.{PickedBy}
use Rattle.grounds.proofs.rules.picked_rules.Given as goal

abbrev pub invariant-loop-i : goal.invariant-loop-i
invariant-loop-i l = (l.i ≤ l.m) × Listed (PickedBy l.marks l.picks l.width) l.i l.rules
