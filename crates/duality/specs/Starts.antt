-- Starts: sets of variables at which reach begins. What the theory asks of one, and the starts of one variable.
use Rattle.std.specs.Prelude.{ℕ, ◌<◌, ◌≡◌, ◌⊎◌}

-- The start of variable k alone; document 01's is that of variable 0.
abbrev pub Only : ℕ → ℕ → Type 0
Only k j = j ≡ k

-- Two starts as one.
abbrev pub Either : (ℕ → Type 0) → (ℕ → Type 0) → ℕ → Type 0
Either A B j = A j ⊎ B j

-- A start of variables below N; whether a variable is one of them is decided.
pub record StartBelow (N : ℕ) (Start : ℕ → Type 0) : Type 0 where
  pub decided : (j : ℕ) → Start j ⊎ (Start j → ⊥)
  pub inside : (j : ℕ) → Start j → j < N
