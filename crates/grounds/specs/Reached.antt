-- Reach along the picks of an answer of class 1 or 3: the table of arcs, and the marks of the start.
use Rattle.std.specs.Prelude.{ℕ, ◌-◌, ◌/◌, ◌%◌, cond, List, eqb, get_or}
use Rattle.definitions.specs.Limits.{stride}
use Rattle.grounds.specs.Tables.{row_in}

-- Where variable j leads: to variable l where the row that it picks has a coefficient on the right; without a pick nowhere.
unfoldable pub pick_arc : List ℕ → ℕ → ℕ → ℕ
pick_arc right pick l = cond (eqb pick 0) 0 (row_in right (pick - 1) l)

-- Element k of the table of arcs, in rows of 32.
abbrev pub arc_cell : List ℕ → List ℕ → ℕ → ℕ
arc_cell right picks k = pick_arc right (get_or picks (k / stride) 0) (k % stride)
