use Prim.Native.Nat.{◌≤◌}
use mathlib.Core.Path.{◌≡◌}
use Rattle.base.specs.Filled.{Filled}
use Rattle.grounds.specs.Reached.{arc_cell}
use Rattle.grounds.proofs.reached.pick_arcs.Given as goal

abbrev pub invariant-loop-k : goal.invariant-loop-k
invariant-loop-k l = (l.k ≤ 1024) × Filled (λ i v. v ≡ arc_cell l.right l.picks i) 1024 l.k l.arcs
