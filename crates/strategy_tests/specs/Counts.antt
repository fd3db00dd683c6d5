-- Picks that count, on the tables.
use Rattle.std.specs.Prelude.{ℕ, suc, ◌+◌, ◌*◌, ◌<◌, ◌≡◌, List, get_or}
use Rattle.definitions.specs.Limits.{stride}
use Rattle.reach.specs.Marks.{Marked}

-- Variable j's pick is a row whose left coefficient for j is not blank.
pub record PickCounts (left : List ℕ) (pick j : ℕ) : Type 0 where
  pub row : ℕ
  pub picked : pick ≡ suc row
  pub some : 0 < get_or left (row * stride + j) 0

-- The pick of the row whose right coefficients start at `base` is a variable whose right coefficient there is not blank.
pub record RowPickCounts (right : List ℕ) (pick base : ℕ) : Type 0 where
  pub variable : ℕ
  pub picked : pick ≡ suc variable
  pub some : 0 < get_or right (base + variable) 0

-- Each marked variable below k has a pick that counts.
abbrev pub VariablesCount : List ℕ → List ℕ → List ℕ → ℕ → Type 0
VariablesCount left picks marks k = (j : ℕ) → j < k → Marked marks j → PickCounts left (get_or picks j 0) j

-- So has each variable of the first `count` places of an order.
abbrev pub PlacesCount : List ℕ → List ℕ → List ℕ → ℕ → Type 0
PlacesCount left picks places count = (i : ℕ) → i < count → PickCounts left (get_or picks (get_or places i 0) 0) (get_or places i 0)

-- The row that starts at `base` has only blank left coefficients of marked variables below k.
abbrev pub Idle : List ℕ → List ℕ → ℕ → ℕ → Type 0
Idle left marks base k = (j : ℕ) → j < k → Marked marks j → get_or left (base + j) 0 ≡ 0

-- If the row that starts at `base` is in use (a marked variable has a left coefficient there that is not blank), its pick counts.
abbrev pub Stands : List ℕ → List ℕ → List ℕ → ℕ → ℕ → ℕ → Type 0
Stands left right marks width base pick = (j : ℕ) → j < width → Marked marks j → 0 < get_or left (base + j) 0 → RowPickCounts right pick base

-- Each row below k stands.
abbrev pub RowsCount : List ℕ → List ℕ → List ℕ → List ℕ → ℕ → ℕ → Type 0
RowsCount left right picks marks width k = (i : ℕ) → i < k → Stands left right marks width (i * stride) (get_or picks i 0)
