use Rattle.std.proofs.Common.{◌+◌, ◌≤◌}
use Rattle.closed_walks.specs.GainRound.{Rounds}
use Rattle.closed_walks.proofs.gains.none_gains.Given as goal

abbrev pub invariant-loop : goal.invariant-loop
invariant-loop l = (l.counter ≤ l.order.width + 1) × (l.order.width ≤ 32) × Rounds l.arcs l.order.marks.now l.order.width l.counter l.values l.done
