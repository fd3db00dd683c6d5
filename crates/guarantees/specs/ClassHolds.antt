-- The class and span of a problem, by the definitions: what an accepted answer says.
use Rattle.std.specs.Prelude.{ℕ, ℤ}
use Rattle.definitions.specs.Limits.{class_optimal, class_unbounded, class_infeasible}
use Rattle.definitions.specs.Tropical.{Trop, bot, fin}
use Rattle.definitions.specs.Problem.{Problem, Optimal, Unbounded, Infeasible}

pub data ClassHolds (p : Problem) : ℕ → Trop → Type 0 where
  optimal : {s : ℤ} → Optimal p s → ClassHolds p class_optimal (fin s)
  unbounded : Unbounded p → ClassHolds p class_unbounded bot
  infeasible : Infeasible p → ClassHolds p class_infeasible bot
