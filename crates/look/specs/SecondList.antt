-- The objective's right list (document 02, 2.4: the second list) beside the values of a point.
use Rattle.std.specs.Prelude.{ℕ, ◌≤◌, ◌<◌, List, get_or}

-- Variable k has a coefficient in the list, and a value.
abbrev pub MetAt : List ℕ → List ℕ → ℕ → Type 0
MetAt objective values k = (0 < get_or objective k 0) × (0 < get_or values k 0)

-- The first variable below the width that does; or the width, and none does.
pub record SecondIs (objective values : List ℕ) (width r : ℕ) : Type 0 where
  pub most : r ≤ width
  pub some : r < width → MetAt objective values r
  pub first : (k : ℕ) → k < r → MetAt objective values k → ⊥
  pub none : width ≤ r → (k : ℕ) → k < width → MetAt objective values k → ⊥
