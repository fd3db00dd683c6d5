-- What stands in the rows of a system: two tables, and the ends of their rows.
use Rattle.std.specs.Prelude.{ℕ, List}
use Rattle.duality.specs.System.{System}
use Rattle.policy_iteration.specs.declared.rows.Rows.{Rows}
use Rattle.policy_iteration.specs.Tables.{system_of, Tables}
use Rattle.policy_iteration.specs.Ends.{EndsOf}

-- The tables, and the ends of the rows of the right one.
pub record RightSide (rows : Rows) : Type 0 where
  pub tables : Tables rows.left.now rows.right.now rows.width rows.count
  pub right_are : EndsOf rows.right.now rows.count rows.right_ends.now

-- Of the left one too.
pub record BothSides (rows : Rows) : Type 0 where
  pub right : RightSide rows
  pub left_are : EndsOf rows.left.now rows.count rows.left_ends.now

-- The system that they hold, with these caps.
abbrev pub system_in : Rows → List ℕ → System
system_in rows caps = system_of rows.left.now rows.right.now caps rows.width rows.count
