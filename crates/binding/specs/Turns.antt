-- The turns of document 02's request 2.5: the variables that they go through, and one turn.
use Rattle.std.specs.Prelude.{ℕ, suc, ◌≤◌, ◌≡◌, ℤ, ◌+ℤ◌, ◌-ℤ◌, ◌≤ℤ◌}
use Rattle.definitions.specs.Tropical.{fin, Finite}
use Rattle.definitions.specs.Problem.{Problem, Point}
use Rattle.definitions.specs.Certificate.{Strategy, Reachable, Leads, raise}
use Rattle.definitions.specs.Reasons.{RowYields}

-- A variable is reached and has a number (a moment is reached and planned).
pub record Live (Start : ℕ → Type 0) (p : Problem) (x : Point) (picks : Strategy) (j : ℕ) : Type 0 where
  pub reached : Reachable Start (Leads p picks) j
  pub planned : Finite (x j)

-- A turn from variable j to variable l by the row that j picks: both coefficients and both variables are numbers, and at s, by which the
-- objective is raised, the left sum is at most the right sum.
pub record Turn (p : Problem) (s : ℤ) (x : Point) (picks : Strategy) (j l : ℕ) : Type 0 where
  pub row : ℕ
  pub picked : picks j ≡ suc row
  pub row_inside : row ≤ p.m
  pub row_yields : RowYields p x row l
  pub to : l ≤ p.n
  pub left : ℤ
  pub right : ℤ
  pub from : ℤ
  pub on : ℤ
  pub left_is : p.left row j ≡ fin left
  pub right_is : p.right row l ≡ fin right
  pub from_is : x j ≡ fin from
  pub on_is : x l ≡ fin on
  pub rises : (left +ℤ from) ≤ℤ ((right +ℤ on) +ℤ raise p s row)

-- What its arc weighs at t: right coefficient less left coefficient, raised.
abbrev pub turn_weight : {p : Problem} {s : ℤ} {x : Point} {picks : Strategy} {j l : ℕ} → ℤ → Turn p s x picks j l → ℤ
turn_weight {p} t u = (u.right -ℤ u.left) +ℤ raise p t u.row
