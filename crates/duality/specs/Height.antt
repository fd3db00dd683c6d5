-- The measure of the policy iteration: how far the values of a strategy stand above the lowest that they can be.
use Rattle.std.specs.Prelude.{ℕ, zero, suc, ◌+◌, ◌-◌, ◌*◌, ◌≤◌, ◌<◌, ◌≡◌, ℤ, nat_abs}
use Rattle.definitions.specs.Tropical.{Trop, bot, fin}
use Rattle.definitions.specs.Certificate.{Strategy}
use Rattle.definitions.proofs.Whole.{up, down}
use Rattle.duality.specs.System.{System}
use Rattle.duality.specs.Values.{values}

-- Every whole coefficient and every cap lies within ±C.
pub record Bounded (s : System) (C : ℕ) : Type 0 where
  pub left : (i j : ℕ) (a : ℤ) → i < s.rows → j < s.variables → s.left i j ≡ fin a → nat_abs a ≤ C
  pub right : (i j : ℕ) (b : ℤ) → i < s.rows → j < s.variables → s.right i j ≡ fin b → nat_abs b ≤ C
  pub caps : (j : ℕ) → j < s.variables → nat_abs (s.caps j) ≤ C

-- The rank of a value above the floor −c: 0 for blank, and one more than the height above the floor.
unfoldable pub rank : ℕ → Trop → ℕ
rank c bot = 0
rank c (fin v) = suc (c + up v) - down v

-- The sum of f 0, …, f (n − 1).
unfoldable pub total : (ℕ → ℕ) → ℕ → ℕ
total f zero = 0
total f (suc n) = total f n + f n

-- No value lies below −(C + variables · 2C).
abbrev pub depth : System → ℕ → ℕ
depth s C = C + s.variables * (2 * C)

-- The height of a strategy: the ranks of its values, summed.
unfoldable pub height : System → ℕ → Strategy → ℕ
height s C τ = total (λ j. rank (depth s C) (values s τ j)) s.variables
