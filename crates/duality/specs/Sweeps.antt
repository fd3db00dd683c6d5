-- Rounds in place, over any matrix, exits and number N of variables: what a round makes of numbers, and what several reach.
use Rattle.std.specs.Prelude.{ℕ, suc, ◌<◌, ◌≡◌}
use Rattle.definitions.specs.Tropical.{Trop, plus, ◌⊑◌}
use Rattle.duality.specs.Values.{value_at}

-- The matrix with each arc the other way.
abbrev pub turned : (ℕ → ℕ → Trop) → ℕ → ℕ → Trop
turned W j l = W l j

-- Numbers for the variables below N: for each arc between these, its weight with the number at its end is at most the
-- number at its start. A potential.
pub record Potential (W : ℕ → ℕ → Trop) (N : ℕ) (e : ℕ → Trop) : Type 0 where
  pub bounds : (j l : ℕ) → j < N → l < N → plus (W j l) (e l) ⊑ e j

-- The numbers x have become y once each of the first k variables raised the starts of the arcs that lead to it: none fell;
-- for each such arc, its weight with the old number at its end is at most the new number at its start; and no potential that
-- is at least x is exceeded.
pub record Swept (W : ℕ → ℕ → Trop) (N k : ℕ) (x y : ℕ → Trop) : Type 0 where
  pub grows : (l : ℕ) → l < N → x l ⊑ y l
  pub bounds : (j l : ℕ) → j < k → l < N → plus (W l j) (x j) ⊑ y l
  pub under : (e : ℕ → Trop) → Potential W N e → ((l : ℕ) → l < N → x l ⊑ e l) → (l : ℕ) → l < N → y l ⊑ e l

-- The values after k rounds of Bellman–Ford are those after one more.
abbrev pub Fixed : (ℕ → ℕ → Trop) → (ℕ → Trop) → ℕ → ℕ → Type 0
Fixed W exits N k = (j : ℕ) → j < N → value_at W exits N (suc k) j ≡ value_at W exits N k j

-- The numbers x after i rounds from the exits: at least the values after i rounds of Bellman–Ford, at most any potential
-- that is at least the exits.
pub record Climbed (W : ℕ → ℕ → Trop) (exits : ℕ → Trop) (N i : ℕ) (x : ℕ → Trop) : Type 0 where
  pub lower : (j : ℕ) → j < N → value_at W exits N i j ⊑ x j
  pub upper : (e : ℕ → Trop) → Potential W N e → ((j : ℕ) → j < N → exits j ⊑ e j) → (j : ℕ) → j < N → x j ⊑ e j
