-- The turns of the binding round over lists: moments yield to their picks and rows to their first latest moments, until a moment comes
-- again.
use Rattle.std.specs.Prelude.{ℕ, ◌+◌, ◌-◌, ◌≤◌, ◌<◌, ◌≡◌, List, length, get_or}
use Rattle.definitions.specs.Limits.{highest_n, lead_limit, table_rows}
use Rattle.records.specs.Decoded.{Near}
use Rattle.records.specs.Stamps.{Stamped}
use Rattle.grounds.specs.Tables.{row_in}
use Rattle.grounds.specs.Latest.{FirstLatest}
use Rattle.grounds.specs.declared.turns.Turns.{Turns}

-- Variable j yields to variable l, by the row that it picks.
pub record Next (right stamps picks : List ℕ) (n j l : ℕ) : Type 0 where
  pub row : ℕ
  pub picked : get_or picks j 0 ≡ row + 1
  pub yields : FirstLatest (row_in right row) stamps (n + 1) l

-- What the turns rest on: numbers that can be added, and variables that can be gone through, those with `live` above 0: each has a pick,
-- and what it yields to is one of them.
pub record Going (right stamps picks : List ℕ) (n : ℕ) (live : ℕ → ℕ) : Type 0 where
  pub n_most : n ≤ highest_n
  pub stamped : Stamped stamps
  pub near : (k : ℕ) → Near lead_limit (get_or right k 0)
  pub picked : (j : ℕ) → 0 < live j → (0 < get_or picks j 0) × (get_or picks j 0 ≤ table_rows)
  pub inside : (j : ℕ) → 0 < live j → j ≤ n
  pub onward : (j l : ℕ) → 0 < live j → Next right stamps picks n j l → 0 < live l

-- Variables that came in turn, none twice.
pub record Came (right stamps picks : List ℕ) (n : ℕ) (live : ℕ → ℕ) (moments : List ℕ) : Type 0 where
  pub most : length moments ≤ n + 1
  pub lives : (i : ℕ) → i < length moments → 0 < live (get_or moments i 0)
  pub yields : (i : ℕ) → i + 1 < length moments → Next right stamps picks n (get_or moments i 0) (get_or moments (i + 1) 0)
  pub new : (i k : ℕ) → i < k → k < length moments → get_or moments i 0 ≡ get_or moments k 0 → ⊥

-- A moment's turn: as many have come as turns are gone of n + 1, and the last of them yields to it.
pub record MomentTurn (right stamps picks : List ℕ) (n turns : ℕ) (moments : List ℕ) (j : ℕ) : Type 0 where
  pub live : ℕ → ℕ
  pub going : Going right stamps picks n live
  pub gone : length moments + turns ≡ n + 1
  pub came : Came right stamps picks n live moments
  pub alive : 0 < live j
  pub joins : (i : ℕ) → i + 1 ≡ length moments → Next right stamps picks n (get_or moments i 0) j

-- A row's turn: the last that has come picks it.
pub record RowTurn (right stamps picks : List ℕ) (n turns : ℕ) (moments : List ℕ) (row : ℕ) : Type 0 where
  pub live : ℕ → ℕ
  pub going : Going right stamps picks n live
  pub turns_most : turns ≤ n
  pub gone : length moments + turns ≡ n + 1
  pub came : Came right stamps picks n live moments
  pub picked : get_or picks (get_or moments (n - turns) 0) 0 ≡ row + 1

-- The turns have come back: these came in turn, none twice, and the last of them yields to the one at `back`.
pub record CameBack (right stamps picks : List ℕ) (n first : ℕ) (r : Turns) : Type 0 where
  pub most : length r.came ≤ n + 1
  pub back_inside : r.back < length r.came
  pub first_is : get_or r.came 0 0 ≡ first
  pub yields : (i : ℕ) → i + 1 < length r.came → Next right stamps picks n (get_or r.came i 0) (get_or r.came (i + 1) 0)
  pub again : (i : ℕ) → i + 1 ≡ length r.came → Next right stamps picks n (get_or r.came i 0) (get_or r.came r.back 0)
  pub new : (i k : ℕ) → i < k → k < length r.came → get_or r.came i 0 ≡ get_or r.came k 0 → ⊥
