use Rattle.reach.specs.Spreading.{MarksOf}
use Prim.Native.Nat.{◌≤◌}
use Rattle.reach.proofs.marks_of.Given as goal

abbrev pub invariant-loop-l : goal.invariant-loop-l
invariant-loop-l l = (l.l ≤ 32) × MarksOf l.coefficients l.l l.marks
