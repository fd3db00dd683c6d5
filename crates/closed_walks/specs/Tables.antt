-- What the tests ask of the two tables of a problem and of picks: lengths and ranges.
use Rattle.std.specs.Prelude.{◌≡◌, ℕ, suc, ◌<◌, ◌≤◌, List, length, slice_index}
use Rattle.definitions.specs.Limits.{highest_n, highest_m, lead_limit, span_limit, table_size, table_rows}
use Rattle.records.specs.Decoded.{Near}

-- Two tables of coefficients for n + 1 variables and m + 1 rows, whatever problem they hold.
pub record Sized (left right : List ℕ) (n m : ℕ) : Type 0 where
  pub n_most : n ≤ highest_n
  pub m_most : m ≤ highest_m
  pub left_length : length left ≡ table_size
  pub right_length : length right ≡ table_size
  pub left_near : (k : ℕ) → Near lead_limit (slice_index left k)
  pub right_near : (k : ℕ) → Near lead_limit (slice_index right k)

-- Picks, none above the highest.
pub record Picked (picks : List ℕ) (highest : ℕ) : Type 0 where
  pub length_is : length picks ≡ table_rows
  pub none_above : (k : ℕ) → slice_index picks k ≤ highest

-- A number t, as an offset number, at which the closed walks are tested: a span less one in class 1, the lowest trial in class 2,
-- the top trial in class 3. So it is whole, and no further from 0 than the lowest trial.
pub record Trial (t : ℕ) : Type 0 where
  pub some : 0 < t
  pub near : Near (suc span_limit) t
