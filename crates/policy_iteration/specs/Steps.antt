-- What rows that lower values in place make of a point and a strategy, and what the iteration ends with.
use Rattle.std.specs.Prelude.{ℕ, ◌+◌, ◌*◌, ◌-◌, ◌≤◌, ◌<◌, ◌≡◌, cond, ltb, ◌⊎◌, List, length, get_or}
use Rattle.definitions.specs.Limits.{lead_limit, signed_half, stride, table_size, table_rows}
use Rattle.definitions.specs.Offset.{trop_of}
use Rattle.duality.specs.System.{System, Solves}
use Rattle.duality.specs.Values.{difference, Policy}
use Rattle.duality.specs.Iteration.{RowsFall, Passes, Iterated}
use Rattle.records.specs.Decoded.{Near}
use Rattle.policy_iteration.specs.Tables.{system_of, point_of, pick_of, turn_limit, value_limit, low_half, high, highs, Within}
use Rattle.policy_iteration.specs.Rows.{BothSides}
use Rattle.policy_iteration.specs.declared.rows.Rows.{Rows}
use Rattle.policy_iteration.specs.Rounds.{ValuesIs}

-- What a row with this right side gives the variables that it holds, as low numbers: `top` less the left coefficient, and not below 0;
-- and the top alone is above every value.
pub record Gives (side top : ℕ) : Type 0 where
  pub is : (left : ℕ) → Near lead_limit left → 0 < left → trop_of (high (top - left)) ≡ difference (trop_of (high side)) (trop_of left)
  pub above : low_half + value_limit ≤ top

-- The lower of two numbers, and the choice between two by which is lower.
abbrev pub lesser : ℕ → ℕ → ℕ
lesser a b = cond (ltb a b) a b

abbrev pub chosen_by : ℕ → ℕ → ℕ → ℕ → ℕ
chosen_by a b i k = cond (ltb a b) i k

-- What row i gives a variable, by its top.
abbrev pub given_by : List ℕ → ℕ → ℕ → ℕ → ℕ
given_by left i top j = top - get_or left (i * stride + j) 0

-- Row i has lowered the value of variable j, and is picked if it did.
pub record LoweredPlace (left : List ℕ) (i top j : ℕ) (x picks x' picks' : List ℕ) : Type 0 where
  pub value : get_or x' j 0 ≡ lesser (given_by left i top j) (get_or x j 0)
  pub choice : get_or picks' j 0 ≡ chosen_by (given_by left i top j) (get_or x j 0) i (get_or picks j 0)

-- Variable j is as it was.
pub record SamePlace (j : ℕ) (x picks x' picks' : List ℕ) : Type 0 where
  pub value : get_or x' j 0 ≡ get_or x j 0
  pub choice : get_or picks' j 0 ≡ get_or picks j 0

-- Variable j has had its turn, and the others are as they were.
pub record LoweredOne (left : List ℕ) (i top j : ℕ) (x picks x' picks' : List ℕ) : Type 0 where
  pub x_size : length x' ≡ stride
  pub picks_size : length picks' ≡ stride
  pub here : LoweredPlace left i top j x picks x' picks'
  pub others : (k : ℕ) → (k ≡ j → ⊥) → SamePlace k x picks x' picks'

-- The variables below n have.
pub record Lowered (left : List ℕ) (i top n : ℕ) (x picks x' picks' : List ℕ) : Type 0 where
  pub x_size : length x' ≡ stride
  pub picks_size : length picks' ≡ stride
  pub each : (j : ℕ) → j < n → LoweredPlace left i top j x picks x' picks'
  pub later : (j : ℕ) → n ≤ j → SamePlace j x picks x' picks'

-- Every variable of row i has had its turn, or is not held by it.
pub record LoweredAll (left : List ℕ) (i top : ℕ) (x picks x' picks' : List ℕ) : Type 0 where
  pub x_size : length x' ≡ stride
  pub picks_size : length picks' ≡ stride
  pub each : (j : ℕ) → j < stride → LoweredPlace left i top j x picks x' picks' ⊎ ((get_or left (i * stride + j) 0 ≡ 0) × SamePlace j x picks x' picks')

-- The same by a row of this right side.
pub record LoweredAt (left : List ℕ) (i side : ℕ) (x picks x' picks' : List ℕ) : Type 0 where
  pub top : ℕ
  pub gives : Gives side top
  pub lowered : LoweredAll left i top x picks x' picks'

-- What gives the variables of a row with a blank right side their values: no more than any left coefficient.
abbrev pub blank_top : ℕ
blank_top = signed_half - lead_limit

-- What a row is lowered by: the sizes.
pub record Lowering (left x picks : List ℕ) (i : ℕ) : Type 0 where
  pub left_size : length left ≡ table_size
  pub x_size : length x ≡ stride
  pub picks_size : length picks ≡ stride
  pub row_most : i < table_rows

-- The first n rows, each in its turn, have made x' of the point x and picks' of its picks, whatever the caps; so many have failed.
pub record Passed (left right : List ℕ) (width rows n : ℕ) (x picks x' picks' : List ℕ) (failed : ℕ) : Type 0 where
  pub size : length picks' ≡ stride
  pub within : (d : ℕ) → Within d width x → Within (d + n * turn_limit) width x'
  pub picked : (j : ℕ) → (pick_of picks' j < rows) ⊎ (pick_of picks' j ≡ pick_of picks j)
  pub falls : (caps : List ℕ) → RowsFall (system_of left right caps width rows) (pick_of picks) (point_of (highs x)) n failed (pick_of picks') (point_of (highs x'))

-- Every variable picks a row.
abbrev pub AllPicked : List ℕ → ℕ → ℕ → Type 0
AllPicked picks width rows = (j : ℕ) → j < width → pick_of picks j < rows

-- The same of passes over all rows.
pub record Turned (left right : List ℕ) (width rows : ℕ) (x picks x' picks' : List ℕ) (failed : ℕ) : Type 0 where
  pub size : length picks' ≡ stride
  pub within : Within value_limit width x'
  pub picked : (j : ℕ) → (pick_of picks' j < rows) ⊎ (pick_of picks' j ≡ pick_of picks j)
  pub passes : (caps : List ℕ) → Passes (system_of left right caps width rows) (pick_of picks) (point_of (highs x)) failed (pick_of picks') (point_of (highs x'))

-- The rows of a pass, and a point within d of 0.
pub record Passing (d : ℕ) (rows : Rows) (x picks : List ℕ) : Type 0 where
  pub sides : BothSides rows
  pub within : Within d rows.width x
  pub size : length picks ≡ stride

-- The end of the iteration: the one strategy that the system leads to, kept, with a row or no pick for each variable; and its values,
-- which solve the system, where that of variable 0 is not blank.
pub record Ended (s : System) (x picks : List ℕ) : Type 0 where
  pub size : length picks ≡ stride
  pub picked : (j : ℕ) → j < stride → pick_of picks j ≤ s.rows
  pub policy : Policy s (pick_of picks)
  pub iterated : Iterated s (pick_of picks)
  pub values_are : ValuesIs s (pick_of picks) x
  pub solves : 0 < get_or x 0 0 → Solves s (point_of x)
