-- What the steps of reading a problem ask and leave: what the bytes and tables must hold, a run of elements filled, rows filled.
-- The contracts of the functions inside cite these; of the public ones `leads_of`, `read_tables` and `read_question` do.
use Rattle.std.specs.Prelude.{ℕ, ◌+◌, ◌*◌, ◌≤◌, ◌<◌, ◌≡◌, cond, List, leb, length, get_or}
use Rattle.base.specs.Filled.{Filled}
use Rattle.definitions.specs.Limits.{highest_n, highest_m, questions_kind, signed_bytes, stride, table_size}
use Rattle.definitions.specs.ProblemRecord.{kind_field, n_field, m_field, count_field, left_place, right_place, problem_size, WithinLayouts}
use Rattle.definitions.specs.Questions.{alone}
use Rattle.records.specs.Decoded.{Rewritten}
use Rattle.problem_records.specs.Tables.{lead_at, cell, left_table, right_table}

-- A problem's bytes hold the leads of n + 1 variables in m + 1 rows, both within the limits, and the two tables have room.
pub record Framed (s : List ℕ) (n m : ℕ) (left right : List ℕ) : Type 0 where
  pub n_most : n ≤ highest_n
  pub m_most : m ≤ highest_m
  pub holds : problem_size n m ≤ length s
  pub left_room : length left ≡ table_size
  pub right_room : length right ≡ table_size

-- A row of 32 by itself: f 0, …, f (count − 1), then 0.
abbrev pub RowOf : (ℕ → ℕ) → ℕ → List ℕ → Type 0
RowOf f count row = Filled (λ j v. v ≡ f j) stride count row

-- Element j of a row whose leads start at a place: n + 1 leads, then 0.
unfoldable pub row_cell : List ℕ → ℕ → ℕ → ℕ → ℕ
row_cell s at n j = cond (leb j n) (lead_at s (at + signed_bytes * j)) 0

-- What reading question q of a record of several questions asks: its n and m, and tables that hold its rules, as reading the record or
-- another of its questions leaves them.
pub record QuestionHeld (s : List ℕ) (n m q : ℕ) (left right : List ℕ) : Type 0 where
  pub kind_is : kind_field s ≡ questions_kind
  pub within : WithinLayouts s
  pub n_is : n ≡ n_field s
  pub m_is : m ≡ m_field s
  pub asked : q < count_field s
  pub lefts : Rewritten m (left_table (alone s 0)) left
  pub rights : Rewritten m (right_table (alone s 0)) right

-- The first k elements of both tables are those of n + 1 variables in m + 1 rows.
pub record Tabled (s : List ℕ) (n m k : ℕ) (left right : List ℕ) : Type 0 where
  pub left_size : length left ≡ table_size
  pub right_size : length right ≡ table_size
  pub lefts : (i : ℕ) → i < k → get_or left i 0 ≡ cell (left_place n) s n m i
  pub rights : (i : ℕ) → i < k → get_or right i 0 ≡ cell (right_place n) s n m i
