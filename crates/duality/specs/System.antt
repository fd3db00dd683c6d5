-- A system of two-sided tropical inequalities A x ≤ B x, its solutions, and the strategies of the two players:
-- a strategy of variables (the paper's τ, player Min), which blocks, and one of rows (σ, player Max), which saves.
use Rattle.std.specs.Prelude.{ℕ, suc, ◌<◌, ◌≡◌, ℤ, pos, ◌-ℤ◌, ◌≤ℤ◌, ◌<ℤ◌}
use Rattle.definitions.specs.Tropical.{Trop, fin, plus, largest, ◌⊑◌, Finite}
use Rattle.definitions.specs.Problem.{Problem, Point}
use Rattle.definitions.specs.Certificate.{Strategy, Reachable, raise}
use Rattle.duality.specs.Circuits.{Circuit}
use Rattle.duality.specs.Starts.{Only}

-- Variables 0 to variables − 1, rows 0 to rows − 1, coefficients by row and variable; and a cap for each variable, below which
-- the policy iteration looks for solutions. Solutions and strategies that block or save know nothing of caps.
pub record System : Type 0 where
  pub variables : ℕ
  pub rows : ℕ
  pub left : ℕ → ℕ → Trop
  pub right : ℕ → ℕ → Trop
  pub caps : ℕ → ℤ

-- One side of a row at a point.
abbrev pub side_of : System → (ℕ → Trop) → Point → Trop
side_of s coefficients x = largest (λ j. plus (coefficients j) (x j)) s.variables

-- The point solves the system: every row's left side is at most its right side.
abbrev pub Solves : System → Point → Type 0
Solves s x = (i : ℕ) → i < s.rows → side_of s (s.left i) x ⊑ side_of s (s.right i) x

-- A solution with a variable of the start finite.
pub record Solution (s : System) (Start : ℕ → Type 0) : Type 0 where
  pub point : Point
  pub solves : Solves s point
  pub at : ℕ
  pub inside : at < s.variables
  pub started : Start at
  pub finite : Finite (point at)

-- Each variable of the start is finite in some solution.
abbrev pub AllSolved : System → (ℕ → Type 0) → Type 0
AllSolved s Start = (j : ℕ) → Start j → Solution s (Only j)

-- The point is finite at a variable of the start.
pub record Meets (s : System) (Start : ℕ → Type 0) (x : Point) : Type 0 where
  pub at : ℕ
  pub inside : at < s.variables
  pub started : Start at
  pub finite : Finite (x at)

-- One solution that is finite at a variable of the one start and at one of the other.
pub record Joint (s : System) (A B : ℕ → Type 0) : Type 0 where
  pub point : Point
  pub solves : Solves s point
  pub first : Meets s A point
  pub second : Meets s B point

-- ---- strategies of variables: τ j is a row; anything from the number of rows on is no pick

pub record Leads (s : System) (τ : Strategy) (j l : ℕ) : Type 0 where
  pub picked : τ j < s.rows
  pub inside : l < s.variables
  pub right : Finite (s.right (τ j) l)

pub record Arc (s : System) (τ : Strategy) (j l : ℕ) (w : ℤ) : Type 0 where
  pub picked : τ j < s.rows
  pub inside : l < s.variables
  pub a : ℤ
  pub b : ℤ
  pub left_is : s.left (τ j) j ≡ fin a
  pub right_is : s.right (τ j) l ≡ fin b
  pub weighs : w ≡ b -ℤ a

pub record HasPick (s : System) (τ : Strategy) (j : ℕ) : Type 0 where
  pub picked : τ j < s.rows
  pub left : Finite (s.left (τ j) j)

-- τ blocks (a winning strategy of Min from the start): every reachable variable has a pick that counts, and every
-- reachable closed walk weighs below zero.
pub record Blocks (s : System) (Start : ℕ → Type 0) (τ : Strategy) : Type 0 where
  pub counts : (j : ℕ) → Reachable Start (Leads s τ) j → HasPick s τ j
  pub negative : (w : ℤ) → Circuit Start (Leads s τ) (Arc s τ) w → w <ℤ pos 0

pub record Blocked (s : System) (Start : ℕ → Type 0) : Type 0 where
  pub strategy : Strategy
  pub blocks : Blocks s Start strategy

-- ---- strategies of rows: σ i is a variable; anything from the number of variables on is no pick

pub record RowLeads (s : System) (σ : Strategy) (j l : ℕ) : Type 0 where
  pub row : ℕ
  pub inside : row < s.rows
  pub left : Finite (s.left row j)
  pub picked : σ row ≡ l
  pub target : l < s.variables

pub record RowArc (s : System) (σ : Strategy) (j l : ℕ) (w : ℤ) : Type 0 where
  pub row : ℕ
  pub inside : row < s.rows
  pub picked : σ row ≡ l
  pub target : l < s.variables
  pub a : ℤ
  pub b : ℤ
  pub left_is : s.left row j ≡ fin a
  pub right_is : s.right row l ≡ fin b
  pub weighs : w ≡ b -ℤ a

pub record RowHasPick (s : System) (σ : Strategy) (i : ℕ) : Type 0 where
  pub picked : σ i < s.variables
  pub right : Finite (s.right i (σ i))

-- σ saves (a winning strategy of Max from the start): every row in use picks a variable that counts, and every
-- reachable closed walk weighs zero or more.
pub record Saves (s : System) (Start : ℕ → Type 0) (σ : Strategy) : Type 0 where
  pub counts : (i j : ℕ) → i < s.rows → Reachable Start (RowLeads s σ) j → Finite (s.left i j) → RowHasPick s σ i
  pub nonnegative : (w : ℤ) → Circuit Start (RowLeads s σ) (RowArc s σ) w → pos 0 ≤ℤ w

pub record Saved (s : System) (Start : ℕ → Type 0) : Type 0 where
  pub strategy : Strategy
  pub saves : Saves s Start strategy

-- ---- the system of a problem at t

-- The inequalities, and the objective as one more row whose right side is raised by t; every cap is 0.
unfoldable pub system_at : Problem → ℤ → System
system_at p t = record {
  variables = suc p.n;
  rows = suc p.m;
  left = p.left;
  right = λ i l. plus (p.right i l) (fin (raise p t i));
  caps = λ j. pos 0;
}

-- The inequalities alone, with any caps.
unfoldable pub rules_of : Problem → (ℕ → ℤ) → System
rules_of p caps = record { variables = suc p.n; rows = p.m; left = p.left; right = p.right; caps = caps }
