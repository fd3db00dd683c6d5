use Rattle.std.proofs.Common.{◌≡◌, ◌+◌, ◌≤◌}
use Rattle.problem_records.specs.Tables.{left_table, right_table}
use Rattle.closed_walks.specs.Arcs.{VariableArcs}
use Rattle.closed_walks.proofs.arcs.variable_arcs.Given as goal

abbrev pub invariant-loop-j : goal.invariant-loop-j
invariant-loop-j l = (l.j ≤ l.rows.n + 1) × (l.j-end ≡ l.rows.n + 1) × VariableArcs (left_table l.rows.bytes.now) (right_table l.rows.bytes.now) l.rows.m l.t l.picks (l.rows.n + 1) l.j l.arcs
