-- What the rounds that find the values of a strategy make.
use Rattle.std.specs.Prelude.{ℕ, ◌+◌, ◌*◌, ◌-◌, ◌≤◌, ◌<◌, ◌≡◌, cond, List, ltb, get_or}
use Rattle.base.specs.Filled.{Filled}
use Rattle.definitions.specs.Limits.{signed_half, stride}
use Rattle.definitions.specs.Tropical.{Trop, fin, plus, largest}
use Rattle.definitions.specs.Problem.{Point}
use Rattle.definitions.specs.Certificate.{Strategy}
use Rattle.definitions.specs.Offset.{trop_of}
use Rattle.duality.specs.System.{System, side_of}
use Rattle.duality.specs.Values.{difference, exits, values_after, values}
use Rattle.policy_iteration.specs.Tables.{entry_of, point_of, high, highs, low_fold, side_most, side_least}

-- A sum of a coefficient and a value as a value: blank where one of them was, which is where the sum is below the limit.
unfoldable pub folded_at : ℕ → ℕ → ℕ
folded_at limit k = cond (ltb k limit) 0 (k - signed_half)

-- The same for low values.
abbrev pub folded : ℕ → ℕ
folded k = folded_at low_fold k

-- The sums of a row of a table with an array.
abbrev pub sums : List ℕ → ℕ → List ℕ → ℕ → ℕ
sums table row x l = get_or table (row * stride + l) 0 + get_or x l 0

-- One side of a row at a point, as a low number.
pub record SideIs (table : List ℕ) (row : ℕ) (x : List ℕ) (width r : ℕ) : Type 0 where
  pub is : trop_of (high r) ≡ largest (λ l. plus (entry_of table row l) (point_of x l)) width
  pub most : r ≤ side_most
  pub least : 0 < r → side_least ≤ r

-- The largest sum in the row that a variable picks, and its left coefficient there. Where it picks none, they stand for its cap and 0.
pub record PickedSum (right x : List ℕ) (width rows cap pick r : ℕ) : Type 0 where
  pub row : pick < rows → SideIs right pick (highs x) width (folded r)
  pub none : rows ≤ pick → r ≡ signed_half + cap

pub record PickedLeft (left : List ℕ) (rows pick j r : ℕ) : Type 0 where
  pub row : pick < rows → r ≡ get_or left (pick * stride + j) 0
  pub none : rows ≤ pick → r ≡ signed_half

-- The same for the first n variables.
abbrev pub PickedSums : List ℕ → List ℕ → List ℕ → List ℕ → ℕ → ℕ → ℕ → List ℕ → Type 0
PickedSums right caps picks x width rows n sums = Filled (λ j v. PickedSum right x width rows (get_or caps j 0) (get_or picks j 0) v) stride n sums

abbrev pub PickedLefts : List ℕ → List ℕ → ℕ → ℕ → List ℕ → Type 0
PickedLefts left picks rows n lefts = Filled (λ j v. PickedLeft left rows (get_or picks j 0) j v) stride n lefts

-- What a round makes of variable j with pick i at the point x: the right side of row i less its left coefficient, or its cap
-- where i is no row.
unfoldable pub stepped_by : System → ℕ → ℕ → Point → Trop
stepped_by s i j x = cond (ltb i s.rows) (difference (side_of s (s.right i) x) (s.left i j)) (fin (s.caps j))

-- An array after a round from the array x.
abbrev pub Stepped : System → Strategy → Point → List ℕ → Type 0
Stepped s τ x out = Filled (λ j v. trop_of v ≡ stepped_by s (τ j) j x) stride s.variables out

-- The exits of a strategy.
abbrev pub Exits : System → Strategy → ℕ → List ℕ → Type 0
Exits s τ n out = Filled (λ j v. trop_of v ≡ exits s τ j) stride n out

-- The values of a strategy after i rounds.
abbrev pub Level : System → Strategy → ℕ → List ℕ → Type 0
Level s τ i x = Filled (λ j v. trop_of v ≡ values_after s τ i j) stride s.variables x

-- The values of a strategy.
abbrev pub ValuesIs : System → Strategy → List ℕ → Type 0
ValuesIs s τ x = Filled (λ j v. trop_of v ≡ values s τ j) stride s.variables x

-- The two arrays are the same at the first n places.
abbrev pub SameUpTo : ℕ → List ℕ → List ℕ → Type 0
SameUpTo n x y = (j : ℕ) → j < n → get_or x j 0 ≡ get_or y j 0
