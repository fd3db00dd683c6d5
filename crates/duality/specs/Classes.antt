-- The class of problems that have an optimal value, without its number.
use Rattle.std.specs.Prelude.{ℤ}
use Rattle.definitions.specs.Problem.{Problem, Optimal}

-- Some value is optimal.
pub record HasOptimal (p : Problem) : Type 0 where
  pub at : ℤ
  pub optimal : Optimal p at
