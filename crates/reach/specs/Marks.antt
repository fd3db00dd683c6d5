-- Reach over a table of arcs: marks, the start, and what reach must leave.
use Rattle.std.specs.Prelude.{ℕ, ◌+◌, ◌*◌, ◌≤◌, ◌<◌, ◌≡◌, List, length, get_or}
use Rattle.definitions.specs.Limits.{stride}
use Rattle.definitions.specs.Certificate.{Reachable, AnchorAnd}

-- Place j is marked.
abbrev pub Marked : List ℕ → ℕ → Type 0
Marked marks j = 0 < get_or marks j 0

-- Variable j leads to variable l: the table, in rows of 32, has an arc there.
pub record Led (arcs : List ℕ) (width j l : ℕ) : Type 0 where
  pub from : j < width
  pub to : l < width
  pub arc : 0 < get_or arcs (j * stride + l) 0

-- The start: the variables that are marked at first.
pub record Begins (start : List ℕ) (width j : ℕ) : Type 0 where
  pub inside : j < width
  pub marked : Marked start j

-- Marks are 32 zeros and ones.
pub record Flags (marks : List ℕ) : Type 0 where
  pub length_is : length marks ≡ stride
  pub flag : (k : ℕ) → get_or marks k 0 ≤ 1

-- The marks are those of a start of variables below the width: exactly these are marked there.
pub record StartMarked (Start : ℕ → Type 0) (width : ℕ) (start : List ℕ) : Type 0 where
  pub flags : Flags start
  pub marked : (j : ℕ) → Start j → Begins start width j
  pub only : (j : ℕ) → Begins start width j → Start j

-- Only variable 0 is marked.
pub record Anchored (start : List ℕ) : Type 0 where
  pub flags : Flags start
  pub anchor : Marked start 0
  pub only : (j : ℕ) → Marked start j → j ≡ 0

-- Only variable k and variable 0 are.
pub record AnchoredAnd (k : ℕ) (start : List ℕ) : Type 0 where
  pub flags : Flags start
  pub anchor : Marked start 0
  pub other : Marked start k
  pub only : (j : ℕ) → Marked start j → AnchorAnd k j

-- Of the first `width` places those are marked to which arcs lead from the start, and no others.
pub record Reached (arcs : List ℕ) (width : ℕ) (start marks : List ℕ) : Type 0 where
  pub flags : Flags marks
  pub marked : (j : ℕ) → Reachable (Begins start width) (Led arcs width) j → Marked marks j
  pub only : (j : ℕ) → j < width → Marked marks j → Reachable (Begins start width) (Led arcs width) j

-- The same of any leads: of the variables below the width exactly those are marked that the start reaches, and it reaches no others.
pub record ReachedBy (Start : ℕ → Type 0) (Leads : ℕ → ℕ → Type 0) (width : ℕ) (marks : List ℕ) : Type 0 where
  pub flags : Flags marks
  pub marked : (j : ℕ) → Reachable Start Leads j → (j < width) × Marked marks j
  pub only : (j : ℕ) → j < width → Marked marks j → Reachable Start Leads j
