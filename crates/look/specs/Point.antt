-- A point that shows a possible span, by policy iteration over all rows.
use Rattle.std.specs.Prelude.{ℕ, ◌+◌, List}
use Rattle.duality.specs.System.{System}
use Rattle.policy_iteration.specs.Tables.{system_of, Tables}
use Rattle.policy_iteration.specs.Ends.{EndsOf}
use Rattle.policy_iteration.specs.Steps.{Ended}
use Rattle.look.specs.declared.frame.Frame.{Frame}
use Rattle.look.specs.Look.{level}

-- All rows in the tables, with every cap at 0.
abbrev pub rows_in : ℕ → ℕ → List ℕ → List ℕ → System
rows_in n m left raised = system_of left raised level (n + 1) (m + 1)

-- The tables of all rows, the right one raised, with their ends.
pub record AllRows (f : Frame) (raised : List ℕ) : Type 0 where
  pub tables : Tables f.left.now raised (f.n + 1) (f.m + 1)
  pub left_ends : EndsOf f.left.now (f.m + 1) f.left_ends
  pub right_ends : EndsOf raised (f.m + 1) f.right_ends

-- The values that the iteration ends with.
pub record PointFor (n m : ℕ) (left raised x : List ℕ) : Type 0 where
  pub picks : List ℕ
  pub ended : Ended (rows_in n m left raised) x picks
