-- One look at a problem: the greatest solution of the inequalities under caps. A cap on each variable of the first list keeps the
-- first side at 0 or below; the others may rise as far as nothing depends on it. The second side there decides every trial.
use Rattle.std.specs.Prelude.{ℕ, suc, ◌+◌, ◌*◌, ◌≤◌, ◌≡◌, ℤ, pos, neg_ℤ}
use Rattle.definitions.specs.Tropical.{Trop, bot, fin}
use Rattle.definitions.specs.Problem.{Problem, Point, side}

-- The caps of a look: −f where the first list has the coefficient f, else C.
pub record Capped (p : Problem) (C : ℕ) (caps : ℕ → ℤ) : Type 0 where
  pub listed : (j : ℕ) (f : ℤ) → j ≤ p.n → p.left p.m j ≡ fin f → caps j ≡ neg_ℤ f
  pub others : (j : ℕ) → j ≤ p.n → p.left p.m j ≡ bot → caps j ≡ pos C

-- C is far enough for coefficients within ±L and trials from −T − 1 on: a second side that depends on it is at least T + 1.
abbrev pub Far : ℕ → ℕ → ℕ → ℕ → Type 0
Far n L T C = suc T + L + n * (2 * L) ≤ C

-- The second side of the objective at a point.
abbrev pub second_at : Problem → Point → Trop
second_at p x = side p.n (p.right p.m) x
