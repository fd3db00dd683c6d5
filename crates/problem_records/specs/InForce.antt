-- The rules in force of a record of kind 5, as a record of kind 1: the rows of suspended rules are blank. Document 02, 2.10.
use Rattle.std.specs.Prelude.{ℕ, ◌+◌, ◌*◌, ◌%◌, ◌≤◌, ◌<◌, ◌≡◌, Bool, cond, ◌&&◌, List, eqb, ltb, length, get_or}
use Rattle.definitions.specs.Limits.{highest_n, highest_m, short_bytes, states_kind, states_place, state_suspended, problem_header, problem_most}
use Rattle.definitions.specs.ProblemRecord.{kind_field, n_field, m_field, state_field, row_place, header_bytes, WithinLayout}
use Rattle.definitions.specs.Questions.{rows_size}

-- Byte k of a row of blanks: 0, 0, 0, 128 over and over.
abbrev pub blank_byte : ℕ → ℕ
blank_byte k = cond (eqb (k % 4) 3) 128 0

-- Of m rules, rule i is suspended.
abbrev pub lifted : List ℕ → ℕ → ℕ → Bool
lifted s m i = ltb i m && eqb (state_field s i) state_suspended

-- Byte k of row i, of n + 1 variables behind m states: blank where the rule is suspended, else as it stands.
abbrev pub row_byte : List ℕ → ℕ → ℕ → ℕ → ℕ → ℕ
row_byte s n m i k = cond (lifted s m i) (blank_byte k) (get_or s (row_place (states_place + short_bytes * m) n i + k) 0)

-- A record of kind 5 that nothing refuses, with its n and m.
pub record StatesHeld (s : List ℕ) (n m : ℕ) : Type 0 where
  pub kind_is : kind_field s ≡ states_kind
  pub within : WithinLayout s
  pub n_is : n ≡ n_field s
  pub m_is : m ≡ m_field s
  pub n_most : n ≤ highest_n
  pub m_most : m ≤ highest_m
  pub holds : states_place + short_bytes * m + rows_size n (m + 1) ≤ length s

-- The first rows of a lent place are those in force.
pub record RowsInForce (s : List ℕ) (n m count : ℕ) (room : List ℕ) : Type 0 where
  pub size_is : length room ≡ problem_most
  pub rows : (i k : ℕ) → i < count → k < rows_size n 1 → get_or room (row_place problem_header n i + k) 0 ≡ row_byte s n m i k

-- The record in force: the header of kind 1, and all rows.
pub record InForce (s : List ℕ) (n m : ℕ) (room : List ℕ) : Type 0 where
  pub header : (k : ℕ) → k < problem_header → get_or room k 0 ≡ get_or (header_bytes n m) k 0
  pub in_force : RowsInForce s n m (m + 1) room
