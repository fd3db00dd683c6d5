-- Policy iteration as a relation with one value: what it makes of a strategy depends on the system alone. It takes the values of
-- the strategy and lets them fall in place, row by row, in one pass or two; with the picks of the rows that failed it begins anew.
use Rattle.std.specs.Prelude.{ℕ, suc, ◌<◌, ◌≡◌, ◌⊎◌}
use Rattle.definitions.specs.Tropical.{bot, plus, ◌⊑◌}
use Rattle.definitions.specs.Problem.{Point}
use Rattle.definitions.specs.Certificate.{Strategy}
use Rattle.duality.specs.System.{System, side_of}
use Rattle.duality.specs.Values.{values}
use Rattle.duality.specs.Falling.{RowFalls}

-- Points, or strategies, that are the same at every variable.
abbrev pub SamePoint : System → Point → Point → Type 0
SamePoint s x y = (j : ℕ) → j < s.variables → x j ≡ y j

abbrev pub SamePicks : System → Strategy → Strategy → Type 0
SamePicks s τ σ = (j : ℕ) → j < s.variables → τ j ≡ σ j

-- Row i stands at every variable.
abbrev pub RowStands : System → ℕ → Point → Type 0
RowStands s i x = (j : ℕ) → j < s.variables → plus (s.left i j) (x j) ⊑ side_of s (s.right i) x

-- The first n rows, each in its turn, where so many have failed: a row that stands changes nothing, one that fails makes its
-- variables fall.
pub data RowsFall (s : System) (τ : Strategy) (x : Point) : ℕ → ℕ → Strategy → Point → Type 0 where
  none : RowsFall s τ x 0 0 τ x
  stands : {n failed : ℕ} {τ' : Strategy} {x' : Point} → RowsFall s τ x n failed τ' x' → RowStands s n x' → RowsFall s τ x (suc n) failed τ' x'
  falls : {n failed : ℕ} {τ' τ'' : Strategy} {x' x'' : Point} → RowsFall s τ x n failed τ' x' → (RowStands s n x' → ⊥) → RowFalls s n τ' x' τ'' x''
      → RowsFall s τ x (suc n) (suc failed) τ'' x''

-- No variable is without a pick. Then all values are blank.
abbrev pub NoExit : System → Strategy → Type 0
NoExit s τ = (j : ℕ) → j < s.variables → τ j < s.rows

-- None, where variable 0 is blank; two passes over all rows; or one, if no row failed in it, variable 0 is blank after it, or no variable is
-- left without a pick. So many rows failed in the last.
pub data Passes (s : System) (τ : Strategy) (x : Point) : ℕ → Strategy → Point → Type 0 where
  none : x 0 ≡ bot → Passes s τ x 0 τ x
  once : {failed : ℕ} {τ' : Strategy} {x' : Point} → (x 0 ≡ bot → ⊥) → RowsFall s τ x s.rows failed τ' x' → (failed ≡ 0) ⊎ ((x' 0 ≡ bot) ⊎ NoExit s τ')
      → Passes s τ x failed τ' x'
  twice : {first failed : ℕ} {τ' τ'' : Strategy} {x' x'' : Point} → (x 0 ≡ bot → ⊥) → RowsFall s τ x s.rows first τ' x' → (first ≡ 0 → ⊥)
      → (x' 0 ≡ bot → ⊥) → (NoExit s τ' → ⊥) → RowsFall s τ' x' s.rows failed τ'' x'' → Passes s τ x failed τ'' x''

-- The iteration from one strategy to another: passes from its values, until no row fails in the last.
pub data Iterates (s : System) : Strategy → Strategy → Type 0 where
  ends : {τ τ' : Strategy} {x x' : Point} {failed : ℕ} → SamePoint s x (values s τ) → Passes s τ x failed τ' x' → failed ≡ 0 → Iterates s τ τ'
  onward : {τ τ' τ'' : Strategy} {x x' : Point} {failed : ℕ} → SamePoint s x (values s τ) → Passes s τ x failed τ' x' → (failed ≡ 0 → ⊥)
      → Iterates s τ' τ'' → Iterates s τ τ''

-- The strategy that it ends with from the strategy without picks.
pub record Iterated (s : System) (τ : Strategy) : Type 0 where
  pub first : Strategy
  pub none : (j : ℕ) → j < s.variables → first j ≡ s.rows
  pub iterates : Iterates s first τ
