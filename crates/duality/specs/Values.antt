-- The values of a strategy of variables: longest walks to a terminal variable, by rounds (Bellman–Ford); when a strategy
-- is kept by the policy iteration, and what a step of it may change.
use Rattle.std.specs.Prelude.{ℕ, zero, suc, ◌<◌, ◌≡◌, cond, ◌⊎◌, ltb, ℤ, pos, ◌-ℤ◌, ◌<ℤ◌}
use Rattle.definitions.specs.Tropical.{Trop, bot, fin, plus, larger, largest, ◌⊑◌, Finite}
use Rattle.definitions.specs.Problem.{Point}
use Rattle.definitions.specs.Certificate.{Strategy, Walk}
use Rattle.duality.specs.System.{System, side_of, Arc}

-- The value of variable j after k rounds: the heaviest walk of at most k arcs, arcs being the entries of the matrix W
-- that are not blank, to a variable below N, together with the exit at its end.
unfoldable pub value_at : (ℕ → ℕ → Trop) → (ℕ → Trop) → ℕ → ℕ → ℕ → Trop
value_at W exits N zero j = exits j
value_at W exits N (suc k) j = larger (exits j) (largest (λ l. plus (W j l) (value_at W exits N k l)) N)

-- The difference: blank where one of the two is.
unfoldable pub difference : Trop → Trop → Trop
difference bot y = bot
difference (fin b) bot = bot
difference (fin b) (fin a) = fin (b -ℤ a)

-- The weight of the arc by row i from variable j to variable l, blank where there is no such row or arc.
unfoldable pub weight_by : System → ℕ → ℕ → ℕ → Trop
weight_by s i j l = cond (ltb i s.rows) (difference (s.right i l) (s.left i j)) bot

-- The exit of variable j that picks i: its cap where i is no row (the variable is terminal), else none.
unfoldable pub exit_by : System → ℕ → ℕ → Trop
exit_by s i j = cond (ltb i s.rows) bot (fin (s.caps j))

-- The matrix of a strategy.
abbrev pub weights : System → Strategy → ℕ → ℕ → Trop
weights s τ j l = weight_by s (τ j) j l

-- The exits of a strategy.
abbrev pub exits : System → Strategy → ℕ → Trop
exits s τ j = exit_by s (τ j) j

-- The value of each variable after k rounds.
abbrev pub values_after : System → Strategy → ℕ → Point
values_after s τ k = value_at (weights s τ) (exits s τ) s.variables k

-- The values of a strategy: those after as many rounds as there are variables.
unfoldable pub values : System → Strategy → Point
values s τ = values_after s τ s.variables

-- A strategy that the iteration keeps: its picks count, every closed walk weighs below zero, no value is above its cap.
pub record Policy (s : System) (τ : Strategy) : Type 0 where
  pub valid : (j : ℕ) → j < s.variables → τ j < s.rows → Finite (s.left (τ j) j)
  pub negative : (j n : ℕ) (w : ℤ) → Walk (Arc s τ) j j (suc n) w → w <ℤ pos 0
  pub below : (j : ℕ) → j < s.variables → values s τ j ⊑ fin (s.caps j)

-- Row i fails at variable j: its left term there is above its right side.
abbrev pub Fails : System → Point → ℕ → ℕ → Type 0
Fails s x i j = (plus (s.left i j) (x j) ⊑ side_of s (s.right i) x) → ⊥

-- A variable is switched: it now picks a row that failed there at the old values.
pub record Switched (s : System) (τ τ' : Strategy) (j : ℕ) : Type 0 where
  pub picked : τ' j < s.rows
  pub fails : Fails s (values s τ) (τ' j) j

-- A step: each variable keeps its pick or is switched.
abbrev pub Switch : System → Strategy → Strategy → Type 0
Switch s τ τ' = (j : ℕ) → j < s.variables → (τ' j ≡ τ j) ⊎ Switched s τ τ' j
