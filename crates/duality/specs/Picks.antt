-- The two forms of a strategy. In the records 0 is no pick and i + 1 is row (or variable) i; in the theory a pick is
-- the row (or variable) itself, and anything from their number on is no pick.
use Rattle.std.specs.Prelude.{ℕ, zero, suc, ◌≤◌, ◌<◌, ◌≡◌, cond, ltb}
use Rattle.definitions.specs.Tropical.{Finite}
use Rattle.definitions.specs.Problem.{Problem}
use Rattle.definitions.specs.Certificate.{Strategy, Second, start_of, AnchorAnd, Reachable, Leads, RowLeads}

-- One pick of the records as one of the theory; `none` stands for no pick.
unfoldable pub unpick : ℕ → ℕ → ℕ
unpick none zero = none
unpick none (suc i) = i

-- The records' picks as a strategy of the theory, of `many` rows (or variables).
unfoldable pub strategy_of : Strategy → ℕ → Strategy
strategy_of picks many j = unpick many (picks j)

-- A strategy of the theory as the records' picks.
unfoldable pub picks_from : Strategy → ℕ → Strategy
picks_from τ many j = cond (ltb (τ j) many) (suc (τ j)) 0

-- The picks of the first `width` are none above `many`.
abbrev pub NoneAbove : ℕ → ℕ → Strategy → Type 0
NoneAbove many width picks = (j : ℕ) → j < width → picks j ≤ many

-- The two forms say the same at the first `width`.
pub record Joined (picks τ : Strategy) (many width : ℕ) : Type 0 where
  pub read : (j i : ℕ) → j < width → picks j ≡ suc i → (τ j ≡ i) × (i < many)
  pub show : (j : ℕ) → j < width → τ j < many → picks j ≡ suc (τ j)

-- Some picks, none above `many`, that are accepted.
pub record SomePicks (many width : ℕ) (Accepted : Strategy → Type 0) : Type 0 where
  pub picks : Strategy
  pub none_above : NoneAbove many width picks
  pub accepted : Accepted picks

-- Classes 1 and 3: some start, 0 or 1, with picks that are accepted from what it means (document 02, 2.4).
pub record SomeStart (p : Problem) (Accepted : (ℕ → Type 0) → Strategy → Type 0) : Type 0 where
  pub start : ℕ
  pub fits : start ≤ 1
  pub table : SomePicks (suc p.m) (suc p.n) (Accepted (start_of p start))

-- Class 2: some variable of the second list with row picks that are accepted from it and the anchor.
pub record SomeSecond (p : Problem) (Accepted : (ℕ → Type 0) → Strategy → Type 0) : Type 0 where
  pub at : ℕ
  pub second : Second p at
  pub table : SomePicks (suc p.n) (suc p.m) (Accepted (AnchorAnd at))

-- Two strategies of variables agree at every variable that the first reaches from the start.
abbrev pub AgreeReached : (ℕ → Type 0) → Problem → Strategy → Strategy → Type 0
AgreeReached Start p picks picks' = (j : ℕ) → Reachable Start (Leads p picks) j → picks' j ≡ picks j

-- Two strategies of rows agree at every row with a non-blank left coefficient of a variable that the first reaches from the start.
abbrev pub AgreeInUse : (ℕ → Type 0) → Problem → Strategy → Strategy → Type 0
AgreeInUse Start p picks picks' = (i j : ℕ) → i ≤ p.m → Reachable Start (RowLeads p picks) j → Finite (p.left i j) → picks' i ≡ picks i
