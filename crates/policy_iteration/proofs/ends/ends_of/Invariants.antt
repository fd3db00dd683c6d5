use Rattle.std.specs.Prelude.{ℕ, ◌≤◌, ◌≡◌, length, get_or, None}
use Rattle.policy_iteration.specs.Ends.{RowEnds}
use Rattle.policy_iteration.proofs.ends.ends_of.Given as goal

abbrev pub invariant-loop-i : goal.invariant-loop-i
invariant-loop-i l = (l.wide ≤ l.i) × (length l.out ≡ 64) × ((k : ℕ) → RowEnds l.table k (get_or l.out k None))
