-- Two tables of offset numbers as a system of inequalities, 64 rows of 32 columns, and arrays as points and strategies.
use Rattle.std.specs.Prelude.{ℕ, ◌+◌, ◌*◌, ◌≤◌, ◌<◌, ◌≡◌, cond, List, map, eqb, length, get_or, ℤ}
use Rattle.std.proofs.Math.IntN.{sub_ℕ}
use Rattle.definitions.specs.Limits.{highest_n, lead_limit, span_limit, signed_half, stride, table_size, table_rows}
use Rattle.definitions.specs.Tropical.{Trop}
use Rattle.definitions.specs.Problem.{Point}
use Rattle.definitions.specs.Certificate.{Strategy}
use Rattle.definitions.specs.Offset.{trop_of}
use Rattle.duality.specs.System.{System}
use Rattle.records.specs.Decoded.{Near}

-- The coefficient of row i and variable j in a table.
abbrev pub entry_of : List ℕ → ℕ → ℕ → Trop
entry_of table i j = trop_of (get_or table (i * stride + j) 0)

-- An array of offset numbers as a point, an array of rows as a strategy.
abbrev pub point_of : List ℕ → Point
point_of x j = trop_of (get_or x j 0)

abbrev pub pick_of : List ℕ → Strategy
pick_of picks j = get_or picks j 0

-- A right coefficient that was raised lies within this of 0.
abbrev pub raised_limit : ℕ
raised_limit = lead_limit + span_limit + 1

-- Caps lie within this of 0, 2,560,321: so far from 0 that a second side that depends on it shows every trial possible.
abbrev pub cap_limit : ℕ
cap_limit = span_limit + 1 + lead_limit + highest_n * (2 * lead_limit)

-- A row gives a variable at most this more or less than another variable has.
abbrev pub turn_limit : ℕ
turn_limit = lead_limit + raised_limit

-- Values of a strategy lie within this of 0: a cap, and 32 rounds of two coefficients, 45,138,273.
abbrev pub first_limit : ℕ
first_limit = cap_limit + stride * turn_limit

-- In two passes over 64 rows they fall further, but stay within this of 0, 215,450,081.
abbrev pub value_limit : ℕ
value_limit = first_limit + 2 * table_rows * turn_limit

-- Inside the iteration a value is kept low, as its offset number less 2 to the 30th, and 0 for blank: a coefficient and a value
-- then have a sum of 32 bits. This is the offset number of a low one, and an array of them.
abbrev pub low_half : ℕ
low_half = 1073741824

unfoldable pub high : ℕ → ℕ
high k = cond (eqb k 0) 0 (k + low_half)

abbrev pub highs : List ℕ → List ℕ
highs x = map high x

-- The cap of variable j in an array of low numbers, as a whole number.
abbrev pub cap_of : List ℕ → ℕ → ℤ
cap_of caps j = sub_ℕ (high (get_or caps j 0)) signed_half

-- The system that two tables hold in their first `rows` rows and `width` columns, with these caps.
abbrev pub system_of : List ℕ → List ℕ → List ℕ → ℕ → ℕ → System
system_of left right caps width rows = record { variables = width; rows = rows; left = entry_of left; right = entry_of right; caps = cap_of caps }

-- The sum of two offset numbers of at most these sizes is above this if both are whole, and below it if one is blank.
abbrev pub fold_limit : ℕ
fold_limit = signed_half + low_half

-- A side of a row that is not blank is at least this.
abbrev pub fold_least : ℕ
fold_least = low_half

-- A side of a row, as a low number, is at most this, and at least that, 2 to the 29th, where it is not blank.
abbrev pub side_most : ℕ
side_most = low_half + raised_limit + value_limit

abbrev pub side_least : ℕ
side_least = 536870912

-- The sum of a coefficient and a low value is at least this if both are whole, and below it if one is blank.
abbrev pub low_fold : ℕ
low_fold = signed_half + side_least

-- A table of 64 rows of 32 entries within d of 0.
pub record Table (d : ℕ) (table : List ℕ) : Type 0 where
  pub size : length table ≡ table_size
  pub near : (k : ℕ) → Near d (get_or table k 0)

-- An array of 32 values.
pub record Ranged (x : List ℕ) : Type 0 where
  pub size : length x ≡ stride
  pub near : (k : ℕ) → Near value_limit (get_or x k 0)

-- An array of low values of `width` variables; past them it is blank.
pub record Lows (width : ℕ) (x : List ℕ) : Type 0 where
  pub size : length x ≡ stride
  pub ranged : Ranged (highs x)
  pub rest : (k : ℕ) → width ≤ k → get_or x k 0 ≡ 0

-- The same within d of 0.
pub record Within (d width : ℕ) (x : List ℕ) : Type 0 where
  pub size : length x ≡ stride
  pub near : (k : ℕ) → Near d (high (get_or x k 0))
  pub rest : (k : ℕ) → width ≤ k → get_or x k 0 ≡ 0

-- Caps of `width` variables, as low numbers.
pub record Caps (width : ℕ) (caps : List ℕ) : Type 0 where
  pub size : length caps ≡ stride
  pub whole : (j : ℕ) → j < width → 0 < get_or caps j 0
  pub near : (j : ℕ) → j < width → Near cap_limit (high (get_or caps j 0))

-- The two tables of a system of at most 32 variables and 64 rows.
pub record Tables (left right : List ℕ) (width rows : ℕ) : Type 0 where
  pub width_most : width ≤ stride
  pub rows_most : rows ≤ table_rows
  pub lefts : Table lead_limit left
  pub rights : Table raised_limit right
