-- What a test's result says.
use Rattle.std.specs.Prelude.{◌≡◌, Bool, true, false}

-- The result is true exactly when P holds.
pub record Decides (P : Type 0) (r : Bool) : Type 0 where
  pub yes : r ≡ true → P
  pub no : r ≡ false → P → ⊥
