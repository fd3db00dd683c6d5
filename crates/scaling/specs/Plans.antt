-- Plans in whole minutes and plans in d-th parts of a minute, each made from the other.
use Rattle.std.specs.Prelude.{ℕ, pos, ◌*ℤ◌}
use Rattle.definitions.specs.Problem.{Problem, Point, Feasible, Counts, Value, minus_infinity, whole, plus_infinity, ◌≼◌, value}
use Rattle.definitions.specs.Scaling.{times, scaled}
use Rattle.scaling.specs.Floor.{rounded}

-- A plan told in parts of a minute.
abbrev pub stretched_point : ℕ → Point → Point
stretched_point d x j = times d (x j)

-- A plan in parts of a minute, r parts later, and then down to whole minutes.
abbrev pub rounded_point : ℕ → ℕ → Point → Point
rounded_point d r y j = rounded d r (y j)

-- d times a span; the infinities stay.
unfoldable pub times_value : ℕ → Value → Value
times_value d minus_infinity = minus_infinity
times_value d (whole a) = whole (pos d *ℤ a)
times_value d plus_infinity = plus_infinity

-- A plan in whole minutes whose span is at most that of the plan y in parts of a minute; it counts where y does.
pub record WholeMinutes (d : ℕ) (p : Problem) (y : Point) : Type 0 where
  pub point : Point
  pub feasible : Feasible p point
  pub counts : Counts (scaled d p) y → Counts p point
  pub at_most_is : times_value d (value p point) ≼ value (scaled d p) y
