-- Tropical numbers: minus infinity, which document 01 calls blank, or a whole number without limit.
-- Their ordinary sum (the tropical product), their order, the larger of two (the tropical sum) and the largest of a list (formula 1).
use Rattle.std.specs.Prelude.{ℕ, zero, suc, cond, ◌≡◌, ℤ, ◌+ℤ◌, ◌≤ℤ◌}
use Rattle.std.specs.Int.Signed.{le_z}

-- `bot` is document 01's blank, `fin z` the whole number z.
pub data Trop : Type 0 where
  bot : Trop
  fin : ℤ → Trop

-- The ordinary sum: blank plus anything is blank.
unfoldable pub plus : Trop → Trop → Trop
plus bot y = bot
plus (fin a) bot = bot
plus (fin a) (fin b) = fin (a +ℤ b)

-- The order: blank is at most everything, whole numbers are ordered as they are.
infix 4 ◌⊑◌
pub data ◌⊑◌ : Trop → Trop → Type 0 where
  blank_least : {y : Trop} → bot ⊑ y
  whole_least : {a b : ℤ} → a ≤ℤ b → fin a ⊑ fin b

-- The later of two.
unfoldable pub larger : Trop → Trop → Trop
larger bot y = y
larger (fin a) bot = fin a
larger (fin a) (fin b) = fin (cond (le_z a b) b a)

-- The largest of f 0, …, f (k − 1); the largest of blanks alone, or of nothing, is blank.
unfoldable pub largest : (ℕ → Trop) → ℕ → Trop
largest f zero = bot
largest f (suc k) = larger (largest f k) (f k)

-- A number that is not blank.
pub record Finite (x : Trop) : Type 0 where
  pub whole : ℤ
  pub is : x ≡ fin whole
