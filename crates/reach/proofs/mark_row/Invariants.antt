use Rattle.reach.specs.Spreading.{RowMarked}
use Prim.Native.Nat.{◌≤◌}
use Rattle.reach.proofs.mark_row.Given as goal

abbrev pub invariant-loop-l : goal.invariant-loop-l
invariant-loop-l l = (l.l ≤ 32) × RowMarked l.arcs l.base l.l l.initial.marks l.marks
