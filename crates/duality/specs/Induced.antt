-- The strategies of rows that a point induces: each row whose right side is not blank picks a variable that attains it.
use Rattle.std.specs.Prelude.{ℕ, ◌<◌}
use Rattle.definitions.specs.Tropical.{plus, ◌⊑◌, Finite}
use Rattle.definitions.specs.Problem.{Point}
use Rattle.definitions.specs.Certificate.{Strategy}
use Rattle.duality.specs.System.{System, side_of}

-- The pick of row i attains its right side at x.
pub record Attaining (s : System) (x : Point) (σ : Strategy) (i : ℕ) : Type 0 where
  pub inside : σ i < s.variables
  pub attains : side_of s (s.right i) x ⊑ plus (s.right i (σ i)) (x (σ i))

-- Every row whose right side is not blank has such a pick.
abbrev pub Induced : System → Point → Strategy → Type 0
Induced s x σ = (i : ℕ) → i < s.rows → Finite (side_of s (s.right i) x) → Attaining s x σ i
