use Prim.Native.Nat.{◌*◌, ◌≤◌}
use Rattle.definitions.specs.Marks.{DifferBelow}
use Rattle.reach.proofs.compare.words_differ.Given as goal

abbrev pub invariant-loop-w : goal.invariant-loop-w
invariant-loop-w l = (l.w ≤ l.words) × (DifferBelow (8 * l.w) l.old l.new → ⊥)
