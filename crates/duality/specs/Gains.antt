-- Walks over the entries of a matrix, and closed ones that weigh above zero.
use Rattle.std.specs.Prelude.{ℕ, ◌≤◌, ◌<◌, ◌≡◌, ℤ, pos, ◌<ℤ◌}
use Rattle.definitions.specs.Tropical.{Trop, fin}
use Rattle.definitions.specs.Certificate.{Walk}

-- The arcs of a matrix: its entries that are not blank, to a variable below N.
pub record Entry (W : ℕ → ℕ → Trop) (N j l : ℕ) (w : ℤ) : Type 0 where
  pub inside : l < N
  pub entry : W j l ≡ fin w

-- A closed walk of 1 to N arcs above zero, and a way to it from j.
pub record Gain (W : ℕ → ℕ → Trop) (N j : ℕ) : Type 0 where
  pub at : ℕ
  pub way_arcs : ℕ
  pub way_weight : ℤ
  pub way : Walk (Entry W N) j at way_arcs way_weight
  pub arcs : ℕ
  pub weight : ℤ
  pub some : 0 < arcs
  pub most : arcs ≤ N
  pub gains : pos 0 <ℤ weight
  pub loop : Walk (Entry W N) at at arcs weight
