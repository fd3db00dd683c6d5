-- The right table of a problem, in rows of 32, and what is asked of it.
use Rattle.std.specs.Prelude.{ℕ, ◌+◌, ◌*◌, ◌≤◌, ◌≡◌, List, get_or}
use Rattle.definitions.specs.Limits.{stride}
use Rattle.definitions.specs.Problem.{Problem}
use Rattle.definitions.specs.Offset.{trop_of}

-- Row i of a table: its element l.
abbrev pub row_in : List ℕ → ℕ → ℕ → ℕ
row_in table i l = get_or table (i * stride + l) 0

-- The table holds the right coefficients of a problem of n + 1 variables and m + 1 rows.
pub record RightHeld (p : Problem) (right : List ℕ) (n m : ℕ) : Type 0 where
  pub n_is : p.n ≡ n
  pub m_is : p.m ≡ m
  pub right_is : (i j : ℕ) → i ≤ m → j ≤ n → trop_of (row_in right i j) ≡ p.right i j
