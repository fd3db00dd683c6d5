-- The lent tables of leads, as offset numbers: 64 rows of 32 columns, row after row. Every place is determined: past n, past
-- m there is 0, which is blank.
use Rattle.std.specs.Prelude.{Result, ℕ, ◌+◌, ◌/◌, ◌%◌, ◌≤◌, ◌<◌, ◌≡◌, Bool, true, cond, ◌&&◌, List, [], ◌∷◌, map, leb, length}
use Rattle.definitions.specs.Limits.{highest_n, highest_m, problem_kind, lead_limit, signed_bytes, stride, table_size, refused_state, refused_lead}
use Rattle.definitions.specs.Bytes.{Bytes, num_at, nums_at, trop_field, trop_at, all, blank_or_within, first, or_else, Outcome, outcome}
use Rattle.definitions.specs.Offset.{off}
use Rattle.definitions.specs.ProblemRecord.{Kinds, problem_size, kind_field, n_field, m_field, leads_place, left_from, right_from, left_place, right_place, suspended, list_of, row_place, run_blank, header_refusal, state_refused, lead_refused, refusal_for, Layout, layout_of, problem_outcome}
use Rattle.definitions.specs.Questions.{asking}
use Rattle.records.specs.declared.problem.Layout as Layouts
use Rattle.records.specs.declared.refusal.Refusal.{Refusal}
use Rattle.records.specs.ProblemHeader.{header_of}

-- Each of `count` leads from a place on is blank or within the limit.
abbrev pub run_fits : List ℕ → ℕ → ℕ → Bool
run_fits s count at = all (blank_or_within lead_limit) (map trop_field (nums_at signed_bytes count s at))

-- The first of refusals 1 to 5, 15 and 20, and what a record gives where none of them applies: its layout.
unfoldable pub states_refusal : Kinds → List ℕ → ℕ
states_refusal kinds s = or_else (header_refusal kinds s (length s)) (first (record { applies = state_refused s; number = refused_state } ∷ []))

unfoldable pub states_outcome : Kinds → List ℕ → Outcome Layout
states_outcome kinds s = outcome (states_refusal kinds s) (layout_of s)

-- The same with 6.
unfoldable pub leads_refusal : Kinds → List ℕ → ℕ
leads_refusal kinds s = or_else (states_refusal kinds s) (first (record { applies = lead_refused s; number = refused_lead } ∷ []))

unfoldable pub leads_outcome : Kinds → List ℕ → Outcome Layout
leads_outcome kinds s = outcome (leads_refusal kinds s) (layout_of s)

-- Row i of n + 1 variables, of leads that start at a place, has an all-blank left list.
abbrev pub row_blank : List ℕ → ℕ → ℕ → ℕ → Bool
row_blank s start n i = run_blank s (n + 1) (row_place start n i)

-- The offset number of the lead at a place.
abbrev pub lead_at : List ℕ → ℕ → ℕ
lead_at s at = off (num_at signed_bytes s at)

-- Element k of a table whose row i has its lead j at `place i j`; 0 past row m and past column n.
unfoldable pub cell : (ℕ → ℕ → ℕ) → List ℕ → ℕ → ℕ → ℕ → ℕ
cell place s n m k = cond (leb (k / stride) m && leb (k % stride) n) (lead_at s (place (k / stride) (k % stride))) 0

-- Element k of a record's table: blank in the row of a suspended rule.
abbrev pub cell_of : (ℕ → ℕ → ℕ) → List ℕ → ℕ → ℕ
cell_of place s k = cond (suspended s (k / stride)) 0 (cell place s (n_field s) (m_field s) k)

-- The table of the left leads, and that of the right leads.
unfoldable pub left_table : List ℕ → List ℕ
left_table s = list_of (cell_of (left_from (leads_place (kind_field s) (m_field s)) (n_field s)) s) table_size

unfoldable pub right_table : List ℕ → List ℕ
right_table s = list_of (cell_of (right_from (leads_place (kind_field s) (m_field s)) (n_field s)) s) table_size

-- The bytes of a record of kind 1 that holds the leads of n + 1 variables in m + 1 rows, each blank or within the limit. (A rule may be
-- blank here: those of suspended rules are.)
pub record Laid (s : List ℕ) (n m : ℕ) : Type 0 where
  pub bytes : Bytes s
  pub kind_is : kind_field s ≡ problem_kind
  pub n_is : n_field s ≡ n
  pub m_is : m_field s ≡ m
  pub n_most : n ≤ highest_n
  pub m_most : m ≤ highest_m
  pub holds : problem_size n m ≤ length s
  pub lefts_fit : (i j : ℕ) → i ≤ m → j ≤ n → blank_or_within lead_limit (trop_at s (left_place n i j)) ≡ true
  pub rights_fit : (i j : ℕ) → i ≤ m → j ≤ n → blank_or_within lead_limit (trop_at s (right_place n i j)) ≡ true

-- What reading a problem into two tables leaves: the answer; both tables as they were where the problem is refused, else the left and
-- the right leads of its rules and its first question.
pub record ProblemRead (kinds : Kinds) (s left right : List ℕ) (r : Result Layouts.Layout Refusal) (left' right' : List ℕ) : Type 0 where
  pub result : header_of r ≡ problem_outcome kinds s
  pub left_kept : 0 < refusal_for kinds s → left' ≡ left
  pub right_kept : 0 < refusal_for kinds s → right' ≡ right
  pub left_read : refusal_for kinds s ≡ 0 → left' ≡ left_table (asking s 0)
  pub right_read : refusal_for kinds s ≡ 0 → right' ≡ right_table (asking s 0)
