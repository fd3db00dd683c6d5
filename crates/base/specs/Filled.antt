-- Lists of numbers as the loops leave them: places that were filled one after another.
use Rattle.std.specs.Prelude.{ℕ, ◌+◌, ◌≤◌, ◌<◌, ◌≡◌, List, length, get_or}

-- An array of this size whose first n elements have the property P, each at its place; the others are 0.
pub record Filled (P : ℕ → ℕ → Type 0) (size n : ℕ) (xs : List ℕ) : Type 0 where
  pub size_is : length xs ≡ size
  pub each : (k : ℕ) → k < n → P k (get_or xs k 0)
  pub rest : (k : ℕ) → n ≤ k → get_or xs k 0 ≡ 0

-- A run of a list that had other contents. From `base` on, `count` elements are those of f; before and behind them everything is as
-- it was, and the length is the same.
pub record FilledFrom (f : ℕ → ℕ) (base count : ℕ) (old new : List ℕ) : Type 0 where
  pub same : length new ≡ length old
  pub before : (k : ℕ) → k < base → get_or new k 0 ≡ get_or old k 0
  pub cells : (l : ℕ) → l < count → get_or new (base + l) 0 ≡ f l
  pub after : (k : ℕ) → base + count ≤ k → get_or new k 0 ≡ get_or old k 0
