-- Rows of a problem that the selection has, and strategies that use no other, from any start.
use Rattle.std.specs.Prelude.{ℕ, suc, ◌≤◌, ◌≡◌}
use Rattle.definitions.specs.Tropical.{Finite}
use Rattle.definitions.specs.Problem.{Problem}
use Rattle.definitions.specs.Certificate.{Strategy, Reachable, Leads, RowLeads}
use Rattle.definitions.specs.Selection.{row_of}

-- Row i of p is a row of the selection: one of the rows chosen, or the objective.
pub record Chosen (p : Problem) (f : ℕ → ℕ) (m' i : ℕ) : Type 0 where
  pub place : ℕ
  pub inside : place ≤ m'
  pub is : row_of p f m' place ≡ i

-- Classes 1 and 3: every reached variable picks such a row, if any. (2.5: "the rules picked by reached moments".)
abbrev pub PicksChosen : (Start : ℕ → Type 0) → Problem → (ℕ → ℕ) → ℕ → Strategy → Type 0
PicksChosen Start p f m' picks = (j i : ℕ) → Reachable Start (Leads p picks) j → picks j ≡ suc i → Chosen p f m' i

-- Class 2: every row with a non-blank left coefficient of a reached variable is such a row.
abbrev pub RowsChosen : (Start : ℕ → Type 0) → Problem → (ℕ → ℕ) → ℕ → Strategy → Type 0
RowsChosen Start p f m' picks =
    (i j : ℕ) → i ≤ p.m → Reachable Start (RowLeads p picks) j → Finite (p.left i j) → Chosen p f m' i
