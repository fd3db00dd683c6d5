-- An answer's stamps and picks in one number a variable.
use Rattle.std.specs.Prelude.{ℕ, ◌+◌, ◌-◌, ◌/◌, ◌%◌, ◌<◌, ◌≡◌, cond, List, ltb, length, get_or}
use Rattle.base.specs.Filled.{Filled}
use Rattle.definitions.specs.Limits.{signed_full, stride, table_rows}

-- A pick is below this.
abbrev pub most_picks : ℕ
most_picks = 128

-- The stamp in a cell, the pick at the variable's place, and the one 32 places further on.
abbrev pub stamp_in : ℕ → ℕ
stamp_in c = c % signed_full

abbrev pub pick_in : ℕ → ℕ
pick_in c = c / signed_full % most_picks

abbrev pub far_pick_in : ℕ → ℕ
far_pick_in c = c / signed_full / most_picks

-- The pick at place k of all of them.
unfoldable pub pick_at : List ℕ → ℕ → ℕ
pick_at cells k = cond (ltb k stride) (pick_in (get_or cells k 0)) (far_pick_in (get_or cells (k - stride) 0))

-- The cell of a stamp and two picks.
pub record Packed (stamp pick far c : ℕ) : Type 0 where
  pub stamp_is : stamp_in c ≡ stamp
  pub pick_is : pick_in c ≡ pick
  pub far_is : far_pick_in c ≡ far

-- Stamps and picks that cells can hold.
pub record Packable (stamps picks : List ℕ) : Type 0 where
  pub stamps_size : length stamps ≡ stride
  pub picks_size : length picks ≡ table_rows
  pub stamps_most : (j : ℕ) → get_or stamps j 0 < signed_full
  pub picks_most : (j : ℕ) → get_or picks j 0 < most_picks

-- The cells of the first n variables.
abbrev pub PackedCells : List ℕ → List ℕ → ℕ → List ℕ → Type 0
PackedCells stamps picks n cells = Filled (λ j c. Packed (get_or stamps j 0) (get_or picks j 0) (get_or picks (j + stride) 0) c) stride n cells
