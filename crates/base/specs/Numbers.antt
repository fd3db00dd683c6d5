-- The larger of two numbers, and the largest of several.
use Rattle.std.specs.Prelude.{ℕ, zero, suc, cond, leb}

-- The larger of two numbers.
unfoldable pub most : ℕ → ℕ → ℕ
most a b = cond (leb a b) b a

-- The largest of f 0, …, f (k − 1).
unfoldable pub uppermost : (ℕ → ℕ) → ℕ → ℕ
uppermost f zero = 0
uppermost f (suc k) = most (uppermost f k) (f k)
