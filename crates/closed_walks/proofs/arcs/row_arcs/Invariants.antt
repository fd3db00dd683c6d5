use Rattle.std.proofs.Common.{◌≡◌, ◌+◌, ◌≤◌}
use Rattle.closed_walks.specs.Arcs.{RowArcs}
use Rattle.closed_walks.proofs.arcs.row_arcs.Given as goal

abbrev pub invariant-loop-i : goal.invariant-loop-i
invariant-loop-i l = (l.i ≤ l.tables.m + 1) × (l.i-end ≡ l.tables.m + 1) × RowArcs l.tables.left.now l.tables.right.now l.tables.m l.t l.picks (l.tables.n + 1) l.i l.arcs
