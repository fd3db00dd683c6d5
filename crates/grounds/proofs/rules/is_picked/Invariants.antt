use Prim.Native.Nat.{ℕ, ◌≤◌, ◌<◌}
use mathlib.Core.Path.{◌≡◌}
use lib.ListN.{get_or}
use Rattle.reach.specs.Marks.{Marked}
use Rattle.grounds.proofs.rules.is_picked.Given as goal

abbrev pub invariant-loop-j : goal.invariant-loop-j
invariant-loop-j l = (l.j ≤ l.width) × ((k : ℕ) → k < l.j → Marked l.marks k → get_or l.picks k 0 ≡ l.number → ⊥)
