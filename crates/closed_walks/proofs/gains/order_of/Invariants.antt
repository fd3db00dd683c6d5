use Rattle.std.proofs.Common.{◌≤◌}
use Rattle.closed_walks.specs.Order.{Ordered}
use Rattle.closed_walks.proofs.gains.order_of.Given as goal

abbrev pub invariant-loop-j : goal.invariant-loop-j
invariant-loop-j l = (l.j ≤ l.width) × (l.width ≤ 32) × Ordered l.marks l.j l.places l.count
