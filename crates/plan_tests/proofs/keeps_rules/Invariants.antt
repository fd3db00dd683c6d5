use Rattle.records.specs.Stamps.{Stamped, stamps_point}
use Rattle.plan_tests.specs.Sides.{Lowered}
use Rattle.definitions.specs.Problem.{Keeps}
use Rattle.definitions.specs.ProblemRecord.{problem_of}
use mathlib.Core.List.{List}
use Prim.Native.Nat.{ℕ, ◌+◌, ◌<◌}
use Rattle.plan_tests.proofs.keeps_rules.Given as goal

abbrev pub invariant-loop-i : goal.invariant-loop-i
invariant-loop-i l = (stamps : List ℕ) → Stamped stamps → Lowered stamps (l.rows.n + 1) l.x → (i : ℕ) → i < l.i → Keeps (problem_of l.rows.bytes.now) (stamps_point stamps) i
