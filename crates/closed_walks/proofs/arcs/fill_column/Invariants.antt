use Rattle.std.proofs.Common.{◌≡◌, ◌+◌, ◌≤◌, length, get_or}
use Rattle.closed_walks.specs.Arcs.{Column, fallen}
use Rattle.closed_walks.proofs.arcs.fill_column.Given as goal

abbrev pub invariant-loop-j : goal.invariant-loop-j
invariant-loop-j l = (l.j ≤ l.width) × (length l.arcs ≡ 1024) × Column (λ i. fallen l.down (get_or l.left (l.base + i) 0)) l.l l.j l.initial.arcs l.arcs
