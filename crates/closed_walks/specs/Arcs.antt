-- The table of arcs of a strategy, entry by entry, as numbers.
use Rattle.std.specs.Prelude.{◌≡◌, ℕ, zero, suc, ◌+◌, ◌-◌, ◌*◌, ◌<◌, ◌≤◌, cond, List, length, ◌==◌, ◌≢◌, slice_index}
use Rattle.base.specs.Numbers.{most}
use Rattle.base.specs.Filled.{FilledFrom}
use Rattle.definitions.specs.Limits.{signed_half, signed_bytes, lead_limit, span_limit, stride, arcs_size}
use Rattle.records.specs.Decoded.{Near}
use Rattle.problem_records.specs.Tables.{lead_at}
use Rattle.closed_walks.specs.Gains.{arc_zero}

-- What row i is raised by, as an offset number: t for the objective, 0 for an inequality.
unfoldable pub raised_by : ℕ → ℕ → ℕ → ℕ
raised_by t m i = cond (i == m) t signed_half

-- The offset number of the least lead. The coefficient that is added last enters as what it is above it, so that the last sum
-- stays below 2³².
abbrev pub least_lead : ℕ
least_lead = signed_half - lead_limit

-- Classes 1 and 3. An arc of weight w stands in the table for 32 w + 1: a closed walk of 1 to 32 arcs then weighs at
-- most 0 exactly when it weighed below 0. From variable j with left coefficient a by a row raised by r, all but the right
-- coefficient:
unfoldable pub lift : ℕ → ℕ → ℕ
lift a r = (arc_zero + stride * r + 1) - stride * (a + lead_limit)

-- no more than this,
abbrev pub lift_most : ℕ
lift_most = arc_zero + stride * suc span_limit + 1

-- and the entry, with right coefficient b.
unfoldable pub lifted : ℕ → ℕ → ℕ
lifted up b = cond (b == 0) 0 (up + stride * (b - least_lead))

-- The entry for left coefficient a, raise r, right coefficient b: none where a or b is blank.
unfoldable pub strict_arc : ℕ → ℕ → ℕ → ℕ
strict_arc a r b = cond (a == 0) 0 (lifted (lift a r) b)

-- The entry from variable j to variable l by the row that j picks: none where it picks none.
unfoldable pub variable_arc : List ℕ → List ℕ → ℕ → ℕ → ℕ → ℕ → ℕ → ℕ
variable_arc left right m t zero j l = 0
variable_arc left right m t (suc i) j l = strict_arc (slice_index left (i * stride + j)) (raised_by t m i) (slice_index right (i * stride + l))

-- What filling `width` entries asks, from `from` on, by a row whose right leads start at a place of the bytes;
pub record LiftSized (arcs : List ℕ) (from : ℕ) (s : List ℕ) (at width up : ℕ) : Type 0 where
  pub length_is : length arcs ≡ arcs_size
  pub room : from + width ≤ arcs_size
  pub inside : at + signed_bytes * width ≤ length s
  pub up_most : up ≤ lift_most
  pub leads : (l : ℕ) → l < width → Near lead_limit (lead_at s (at + signed_bytes * l))

-- and what it leaves.
abbrev pub LiftFilled : ℕ → List ℕ → ℕ → ℕ → ℕ → List ℕ → List ℕ → Type 0
LiftFilled from s at width up old new = FilledFrom (λ l. lifted up (lead_at s (at + signed_bytes * l))) from width old new

-- The table of a strategy of variables, once the first k variables have had their turn.
pub record VariableArcs (left right : List ℕ) (m t : ℕ) (picks : List ℕ) (width k : ℕ) (arcs : List ℕ) : Type 0 where
  pub length_is : length arcs ≡ arcs_size
  pub cells :
      (j l : ℕ) → j < k → l < width
      → slice_index arcs (j * stride + l) ≡ variable_arc left right m t (slice_index picks j) j l

-- Class 2. An arc of weight w stands in the table for −w. By a row raised by r to a variable with right coefficient b,
-- all but the left coefficient:
unfoldable pub fall : ℕ → ℕ → ℕ
fall b r = (arc_zero + signed_half + least_lead) - (b + r)

-- no more than this,
abbrev pub fall_most : ℕ
fall_most = arc_zero + suc span_limit

-- and the entry, with left coefficient a.
unfoldable pub fallen : ℕ → ℕ → ℕ
fallen down a = cond (a == 0) 0 (down + (a - least_lead))

-- The entry for left coefficient a, raise r, right coefficient b: none where a or b is blank.
unfoldable pub loose_arc : ℕ → ℕ → ℕ → ℕ
loose_arc a r b = cond (b == 0) 0 (fallen (fall b r) a)

-- The entry from variable j to variable l by row i: none unless the row picks l.
unfoldable pub row_arc : List ℕ → List ℕ → ℕ → ℕ → List ℕ → ℕ → ℕ → ℕ → ℕ
row_arc left right m t picks i j l =
    cond (slice_index picks i == suc l) (loose_arc (slice_index left (i * stride + j)) (raised_by t m i) (slice_index right (i * stride + l))) 0

-- The largest entry by the first k rows: by document 01's weights, the lightest arc.
unfoldable pub heaviest : List ℕ → List ℕ → ℕ → ℕ → List ℕ → ℕ → ℕ → ℕ → ℕ
heaviest left right m t picks zero j l = 0
heaviest left right m t picks (suc k) j l = most (heaviest left right m t picks k j l) (row_arc left right m t picks k j l)

-- The table of a strategy of rows, once the first k rows have had their turn.
pub record RowArcs (left right : List ℕ) (m t : ℕ) (picks : List ℕ) (width k : ℕ) (arcs : List ℕ) : Type 0 where
  pub length_is : length arcs ≡ arcs_size
  pub cells :
      (j l : ℕ) → j < width → l < width
      → slice_index arcs (j * stride + l) ≡ heaviest left right m t picks k j l

-- A column of the table, once the first k variables have had their turn: each of its first k entries is the larger of
-- what it was and f; the others are as they were.
pub record Column (f : ℕ → ℕ) (l k : ℕ) (old new : List ℕ) : Type 0 where
  pub same : length new ≡ length old
  pub cells : (j : ℕ) → j < k → slice_index new (j * stride + l) ≡ most (slice_index old (j * stride + l)) (f j)
  pub others : (j l' : ℕ) → l' < stride → (j < k → l' ≢ l) → slice_index new (j * stride + l') ≡ slice_index old (j * stride + l')
