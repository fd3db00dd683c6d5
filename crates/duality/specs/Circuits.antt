-- Reachable closed walks, which may pass a variable more than once. Document 01 speaks of cycles; the theory joins, cuts and
-- shortens walks, so it speaks of closed walks. That the conditions of each class are the same of both is proved in
-- proofs/Cycles.antt.
use Rattle.std.specs.Prelude.{ℕ, suc, ◌≤◌, ◌≡◌, ℤ, pos}
use Rattle.definitions.specs.Problem.{Problem}
use Rattle.definitions.specs.Certificate.{Strategy, Reachable, Walk, ArcBy}

-- Closed walks, of at least one arc, that start from a reachable variable.
pub record Circuit (Start : ℕ → Type 0) (Leads : ℕ → ℕ → Type 0) (Arc : ℕ → ℕ → ℤ → Type 0) (w : ℤ) : Type 0 where
  pub at : ℕ
  pub arcs : ℕ
  pub reachable : Reachable Start Leads at
  pub walk : Walk Arc at at (suc arcs) w

-- A closed walk that uses the objective: a reachable variable, an arc by the objective, and a walk back.
pub record UsesObjective (Start : ℕ → Type 0) (Leads : ℕ → ℕ → Type 0) (Objective Arc : ℕ → ℕ → ℤ → Type 0) : Type 0 where
  pub at : ℕ
  pub to : ℕ
  pub arcs : ℕ
  pub w : ℤ
  pub v : ℤ
  pub reachable : Reachable Start Leads at
  pub arc : Objective at to w
  pub back : Walk Arc to at arcs v

-- The arcs of a strategy of variables that are by the objective.
pub record ObjectiveArc (p : Problem) (picks : Strategy) (j l : ℕ) (w : ℤ) : Type 0 where
  pub picked : picks j ≡ suc p.m
  pub inside : l ≤ p.n
  pub by : ArcBy p (pos 0) p.m j l w

-- The arcs of a strategy of rows that are by the objective.
pub record RowObjectiveArc (p : Problem) (picks : Strategy) (j l : ℕ) (w : ℤ) : Type 0 where
  pub picked : picks p.m ≡ suc l
  pub by : ArcBy p (pos 0) p.m j l w
