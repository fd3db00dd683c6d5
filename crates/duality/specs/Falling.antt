-- Values that fall in place: a strategy with a point above its values, and what one row makes of both.
use Rattle.std.specs.Prelude.{ℕ, suc, ◌<◌, ◌≡◌, ◌⊎◌, ℤ, pos, ◌<ℤ◌}
use Rattle.definitions.specs.Tropical.{fin, plus, ◌⊑◌, Finite}
use Rattle.definitions.specs.Problem.{Point}
use Rattle.definitions.specs.Certificate.{Strategy, Walk}
use Rattle.duality.specs.System.{System, side_of, Arc}
use Rattle.duality.specs.Values.{difference, weights, exits, Fails}
use Rattle.duality.specs.Sweeps.{Potential}

-- The strategy's picks count and its closed walks weigh below zero; the point is a potential of its arcs, at least its exits and
-- at most the caps.
pub record Falling (s : System) (τ : Strategy) (x : Point) : Type 0 where
  pub valid : (j : ℕ) → j < s.variables → τ j < s.rows → Finite (s.left (τ j) j)
  pub negative : (j n : ℕ) (w : ℤ) → Walk (Arc s τ) j j (suc n) w → w <ℤ pos 0
  pub potential : Potential (weights s τ) s.variables x
  pub over : (j : ℕ) → j < s.variables → exits s τ j ⊑ x j
  pub below : (j : ℕ) → j < s.variables → x j ⊑ fin (s.caps j)

-- Row i stands at variable j, which keeps its value and pick,
pub record Stays (s : System) (i : ℕ) (τ : Strategy) (x : Point) (τ' : Strategy) (x' : Point) (j : ℕ) : Type 0 where
  pub stands : plus (s.left i j) (x j) ⊑ side_of s (s.right i) x
  pub value : x' j ≡ x j
  pub pick : τ' j ≡ τ j

-- or it fails there: the variable falls to what the row gives it, and picks the row.
pub record Falls (s : System) (i : ℕ) (x : Point) (τ' : Strategy) (x' : Point) (j : ℕ) : Type 0 where
  pub fails : Fails s x i j
  pub value : x' j ≡ difference (side_of s (s.right i) x) (s.left i j)
  pub pick : τ' j ≡ i

-- What row i makes of a strategy and a point.
abbrev pub RowFalls : System → ℕ → Strategy → Point → Strategy → Point → Type 0
RowFalls s i τ x τ' x' = (j : ℕ) → j < s.variables → Stays s i τ x τ' x' j ⊎ Falls s i x τ' x' j
