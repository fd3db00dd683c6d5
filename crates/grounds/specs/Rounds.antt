-- Where the turns begin, and what the binding round rests on.
use Rattle.std.specs.Prelude.{ℕ, ◌+◌, ◌≤◌, ◌<◌, ◌≡◌, List, get_or, Option, Some, None}
use Rattle.definitions.specs.Limits.{highest_m}
use Rattle.closed_walks.specs.Tables.{Picked}
use Rattle.grounds.specs.Tables.{row_in}
use Rattle.grounds.specs.Turns.{Going}

-- Variable k has a coefficient, and a stamp.
abbrev pub MetAt : (ℕ → ℕ) → List ℕ → ℕ → Type 0
MetAt coefficient stamps k = (0 < coefficient k) × (0 < get_or stamps k 0)

-- None of the first `width` variables has both.
abbrev pub NoneMet : (ℕ → ℕ) → List ℕ → ℕ → Type 0
NoneMet coefficient stamps width = (k : ℕ) → k < width → MetAt coefficient stamps k → ⊥

-- The first of the first `width` variables that has both, where one has.
abbrev pub FirstMet : (ℕ → ℕ) → List ℕ → ℕ → Option ℕ → Type 0
FirstMet coefficient stamps width (Some r) = (r < width) × MetAt coefficient stamps r × NoneMet coefficient stamps r
FirstMet coefficient stamps width None = NoneMet coefficient stamps width

-- The turns begin at variable 0 for start 0, else at the first variable of the second list that has a stamp.
pub record Beginning (right stamps : List ℕ) (n m start : ℕ) (first : Option ℕ) : Type 0 where
  pub anchor : start ≡ 0 → first ≡ Some 0
  pub second : 0 < start → FirstMet (row_in right m) stamps (n + 1) first

-- Where the turns begin they can go on.
abbrev pub BeginsAlive : (ℕ → ℕ) → Option ℕ → Type 0
BeginsAlive live (Some j) = 0 < live j
BeginsAlive live None = ⊥

-- What the binding round rests on: the turns can go on from where they begin. An accepted answer of class 1 gives it.
pub record Binding (right stamps picks : List ℕ) (n m start : ℕ) : Type 0 where
  pub live : ℕ → ℕ
  pub going : Going right stamps picks n live
  pub m_most : m ≤ highest_m
  pub picked : Picked picks (m + 1)
  pub begins : (first : Option ℕ) → Beginning right stamps n m start first → BeginsAlive live first
