-- The first latest variable of a row: the first with the largest coefficient plus stamp.
use Rattle.std.specs.Prelude.{ℕ, ◌<◌, List, get_or}
use Rattle.definitions.specs.Tropical.{Trop, plus, ◌⊑◌}
use Rattle.definitions.specs.Offset.{trop_of}

-- Coefficient plus stamp of variable l; both are offset numbers.
abbrev pub sum_at : (ℕ → ℕ) → List ℕ → ℕ → Trop
sum_at coefficient stamps l = plus (trop_of (coefficient l)) (trop_of (get_or stamps l 0))

-- Of the first k variables none has a larger sum than variable r, and none before it as large a one.
pub record FirstLatest (coefficient : ℕ → ℕ) (stamps : List ℕ) (k r : ℕ) : Type 0 where
  pub inside : r < k
  pub latest : (l : ℕ) → l < k → sum_at coefficient stamps l ⊑ sum_at coefficient stamps r
  pub first : (l : ℕ) → l < r → sum_at coefficient stamps r ⊑ sum_at coefficient stamps l → ⊥
