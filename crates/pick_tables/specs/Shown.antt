-- The picks of an answer: in the record's form, 0 where they play no part; and the row strategy that a point induces.
use Rattle.std.specs.Prelude.{ℕ, ◌+◌, ◌*◌, ◌/◌, ◌%◌, ◌≤◌, ◌<◌, ◌≡◌, cond, List, eqb, ltb, length, get_or}
use Rattle.base.specs.Filled.{Filled}
use Rattle.definitions.specs.Limits.{stride, arcs_size, table_rows}
use Rattle.definitions.specs.Tropical.{plus, largest, ◌⊑◌, Finite}
use Rattle.reach.specs.Marks.{Marked, Reached}
use Rattle.reach.specs.Spreading.{mark_of}
use Rattle.policy_iteration.specs.Tables.{entry_of, point_of}
use Rattle.policy_iteration.specs.Rounds.{sums}

-- The record's form of a pick below `many`, 0 where its mark is 0 or it is none.
unfoldable pub shown_pick : ℕ → ℕ → ℕ → ℕ
shown_pick many mark pick = cond (eqb mark 0) 0 (cond (ltb pick many) (pick + 1) 0)

-- ---- classes 1 and 3

-- The arc by row i to variable l, 0 where i is no row.
unfoldable pub arc_by : List ℕ → ℕ → ℕ → ℕ → ℕ
arc_by right rows i l = cond (ltb i rows) (get_or right (i * stride + l) 0) 0

-- The arcs of a strategy of variables, entry by entry.
abbrev pub VariableArcs : List ℕ → List ℕ → ℕ → ℕ → List ℕ → Type 0
VariableArcs right picks rows n arcs = Filled (λ k v. v ≡ arc_by right rows (get_or picks (k / stride) 0) (k % stride)) arcs_size n arcs

-- The picks of a strategy of variables, by marks.
abbrev pub ShownVariables : List ℕ → List ℕ → ℕ → ℕ → List ℕ → Type 0
ShownVariables picks marks rows n out = Filled (λ j v. v ≡ shown_pick rows (get_or marks j 0) (get_or picks j 0)) table_rows n out

-- The picks of a strategy of variables, by the marks of what it reaches from the start.
pub record VariablePicks (right picks start : List ℕ) (width rows : ℕ) (out : List ℕ) : Type 0 where
  pub arcs : List ℕ
  pub marks : List ℕ
  pub arcs_are : VariableArcs right picks rows (width * stride) arcs
  pub reached : Reached arcs width start marks
  pub shown : ShownVariables picks marks rows width out

-- ---- class 2

-- A row by which variable j leads to variable l.
pub record RowTo (left picks : List ℕ) (rows j l : ℕ) : Type 0 where
  pub row : ℕ
  pub inside : row < rows
  pub picked : get_or picks row 0 ≡ l
  pub left_is : get_or left (row * stride + j) 0 ≡ 0 → ⊥

-- The arc from j to l: not 0 exactly when some row leads there.
pub record RowArcIs (left picks : List ℕ) (rows j l r : ℕ) : Type 0 where
  pub some : (r ≡ 0 → ⊥) → RowTo left picks rows j l
  pub none : r ≡ 0 → RowTo left picks rows j l → ⊥

-- The arcs of a strategy of rows, entry by entry.
abbrev pub RowArcs : List ℕ → List ℕ → ℕ → ℕ → List ℕ → Type 0
RowArcs left picks rows n arcs = Filled (λ k v. RowArcIs left picks rows (k / stride) (k % stride) v) arcs_size n arcs

-- The arcs to variable l by a row that picks it and whose left coefficients start at `base`: the first n places of column
-- l are set where these are not 0, and all others are as they were.
pub record Column (left : List ℕ) (base l n : ℕ) (old new : List ℕ) : Type 0 where
  pub same : length new ≡ length old
  pub cells : (j : ℕ) → j < n → get_or new (j * stride + l) 0 ≡ mark_of (get_or old (j * stride + l) 0) (get_or left (base + j) 0)
  pub others : (k : ℕ) → (k % stride ≡ l → n ≤ k / stride) → get_or new k 0 ≡ get_or old k 0

-- A marked variable that the row holds on its left.
pub record UsedBy (left marks : List ℕ) (width i : ℕ) : Type 0 where
  pub at : ℕ
  pub inside : at < width
  pub marked : Marked marks at
  pub left_is : get_or left (i * stride + at) 0 ≡ 0 → ⊥

-- The mark of a row: not 0 exactly when it is in use.
pub record UsedIs (left marks : List ℕ) (width i r : ℕ) : Type 0 where
  pub some : (r ≡ 0 → ⊥) → UsedBy left marks width i
  pub none : r ≡ 0 → UsedBy left marks width i → ⊥

-- The pick of a row, by its mark.
pub record RowShown (left marks : List ℕ) (width i pick v : ℕ) : Type 0 where
  pub mark : ℕ
  pub used : UsedIs left marks width i mark
  pub is : v ≡ shown_pick width mark pick

abbrev pub ShownRows : List ℕ → List ℕ → List ℕ → ℕ → ℕ → List ℕ → Type 0
ShownRows left picks marks width n out = Filled (λ i v. RowShown left marks width i (get_or picks i 0) v) table_rows n out

-- The picks of a strategy of rows, by the marks of what it reaches from the start.
pub record RowPicks (left picks start : List ℕ) (width rows : ℕ) (out : List ℕ) : Type 0 where
  pub arcs : List ℕ
  pub marks : List ℕ
  pub arcs_are : RowArcs left picks rows (width * stride) arcs
  pub reached : Reached arcs width start marks
  pub shown : ShownRows left picks marks width rows out

-- ---- the row strategy of a point

-- A sum of two offset numbers is above this exactly if both are whole.
abbrev pub blank_most : ℕ
blank_most = 3221225471

-- Of the first n sums of a row with a point the pick's is the highest above this, or it is none and no sum is.
pub record Highest (table : List ℕ) (row : ℕ) (x : List ℕ) (width n top pick : ℕ) : Type 0 where
  pub most : (l : ℕ) → l < n → sums table row x l ≤ top
  pub least : blank_most ≤ top
  pub some : pick < width → (top ≡ sums table row x pick) × (blank_most < top)
  pub none : width ≤ pick → (top ≡ blank_most) × (pick ≡ width)
  pub first : pick < width → (l : ℕ) → l < pick → sums table row x l < top

-- The pick is the first place of the highest sum of a row with a point, or the width where no sum is above the limit.
pub record FirstHighest (table : List ℕ) (row : ℕ) (x : List ℕ) (width pick : ℕ) : Type 0 where
  pub most : pick < width → (l : ℕ) → l < width → sums table row x l ≤ sums table row x pick
  pub above : pick < width → blank_most < sums table row x pick
  pub first : pick < width → (l : ℕ) → l < pick → sums table row x l < sums table row x pick
  pub none : width ≤ pick → (pick ≡ width) × ((l : ℕ) → l < width → sums table row x l ≤ blank_most)

-- The pick is the first that attains the right side of the row, if that is not blank.
pub record BestIs (right : List ℕ) (row : ℕ) (x : List ℕ) (width pick : ℕ) : Type 0 where
  pub best : Finite (largest (λ l. plus (entry_of right row l) (point_of x l)) width)
      → (pick < width) × (largest (λ l. plus (entry_of right row l) (point_of x l)) width ⊑ plus (entry_of right row pick) (point_of x pick))
  pub highest : FirstHighest right row x width pick

abbrev pub InducedRows : List ℕ → List ℕ → ℕ → ℕ → List ℕ → Type 0
InducedRows right x width n picks = Filled (λ i v. BestIs right i x width v) table_rows n picks
