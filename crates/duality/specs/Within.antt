-- Problems whose coefficients are small, as far as they are read: in rows 0 to m and variables 0 to n; and the two trials
-- that decide for them.
use Rattle.std.specs.Prelude.{ℕ, suc, ◌*◌, ◌≤◌, ◌≡◌, ℤ, pos, negsuc, nat_abs}
use Rattle.definitions.specs.Tropical.{fin}
use Rattle.definitions.specs.Problem.{Problem}

-- Every finite coefficient lies within ±L.
pub record Within (p : Problem) (L : ℕ) : Type 0 where
  pub left : (i j : ℕ) (a : ℤ) → i ≤ p.m → j ≤ p.n → p.left i j ≡ fin a → nat_abs a ≤ L
  pub right : (i j : ℕ) (a : ℤ) → i ≤ p.m → j ≤ p.n → p.right i j ≡ fin a → nat_abs a ≤ L

-- T is enough: two coefficients for each of the variables 0 to n.
abbrev pub Enough : ℕ → ℕ → ℕ → Type 0
Enough n L T = 2 * (suc n * L) ≤ T

-- The two trials that decide: T, and −T − 1.
abbrev pub upper : ℕ → ℤ
upper T = pos T

abbrev pub lower : ℕ → ℤ
lower T = negsuc T
