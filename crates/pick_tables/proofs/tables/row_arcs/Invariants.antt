use Prim.Native.Nat.{◌*◌}
use Rattle.pick_tables.specs.Shown.{RowArcs}
use Rattle.pick_tables.proofs.tables.row_arcs.Given as goal

abbrev pub invariant-loop-i : goal.invariant-loop-i
invariant-loop-i l = RowArcs l.left l.picks l.i (l.width * 32) l.out
