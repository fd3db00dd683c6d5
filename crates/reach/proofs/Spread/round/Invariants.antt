use Rattle.reach.specs.Spreading.{Spreading}
use Prim.Native.Nat.{◌≤◌}
use Rattle.reach.proofs.Spread.round.Given as goal

abbrev pub invariant-loop-j : goal.invariant-loop-j
invariant-loop-j l = (l.j ≤ l.width) × Spreading l.arcs l.width l.initial.self.marks l.initial.self.done l.j l.self.marks l.self.done
