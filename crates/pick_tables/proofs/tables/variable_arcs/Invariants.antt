use Prim.Native.Nat.{◌*◌}
use Rattle.pick_tables.specs.Shown.{VariableArcs}
use Rattle.pick_tables.proofs.tables.variable_arcs.Given as goal

abbrev pub invariant-loop-j : goal.invariant-loop-j
invariant-loop-j l = VariableArcs l.right l.picks l.rows (l.j * 32) l.arcs
