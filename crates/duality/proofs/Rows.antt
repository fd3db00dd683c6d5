-- Strategies of rows: some strategy of rows saves from a start exactly when each of its variables is finite in some solution. The
-- values at the end of the policy iteration are one solution for all of them, and induce one (Solutions.antt); and where one saves,
-- nothing blocks, so that by strong duality there is a solution. With it the other corollaries of the two dualities: whether there
-- is a solution is decided, and where there is none something blocks.
use Prim.Native.Nat.{ℕ, ◌<◌}
use mathlib.Core.Path.{refl}
use mathlib.Core.Logic.{◌⊎◌, inl, inr, ⊎_elim, ◌↔◌}
use Rattle.definitions.specs.Tropical.{Trop}
use Rattle.definitions.specs.Certificate.{Strategy}
use Rattle.duality.specs.Starts.{Only, Either, StartBelow}
use Rattle.duality.specs.System.{System, Solution, AllSolved, Blocked, Saves, Saved}
use Rattle.duality.specs.Values.{values}
use Rattle.duality.proofs.Starts.{only_below, saves_from}
use Rattle.duality.proofs.Weak.{best, best_induced, clash, not_solved_and_blocked}
use Rattle.duality.proofs.Ends.{finished}
use Rattle.duality.proofs.Strong.{settled, strong}
use Rattle.duality.proofs.Solutions.{values_save}

-- Where a strategy of rows saves from a start, each of its variables is finite in some solution.
pub saves_solved : (s : System) (Start : ℕ → Type 0) (σ : Strategy) → ((j : ℕ) → Start j → j < s.variables) → Saves s Start σ → AllSolved s Start
saves_solved s Start σ inside v k h = ⊎_elim
    (λ x. x)
    (λ b. absurd (clash s (Only k) b.strategy σ k refl (inside k h) b.blocks (saves_from (λ i e. rw e h) v)))
    (strong s (Only k) (only_below k (inside k h)))

-- Exactly when some strategy of rows saves from a start, each of its variables is finite in some solution.
pub saved_exactly : (s : System) (Start : ℕ → Type 0) → ((j : ℕ) → Start j → j < s.variables) → AllSolved s Start ↔ Saved s Start
saved_exactly s Start inside = (
  λ all. record {
    strategy = best s x;
    saves = values_save s (settled s).strategy (settled s).policy (finished s x (settled s).stands) (best s x) (best_induced s x) all;
  },
  λ b. saves_solved s Start b.strategy inside b.saves,
)
  where
    x : ℕ → Trop
    x = values s (settled s).strategy

-- Exactly when some strategy of variables blocks from a start, there is no solution with a variable of it finite.
pub blocked_exactly : (s : System) (Start : ℕ → Type 0) → StartBelow s.variables Start → (Solution s Start → ⊥) ↔ Blocked s Start
blocked_exactly s Start starts =
    (λ d. ⊎_elim (λ v. absurd (d v)) (λ b. b) (strong s Start starts), λ b v. not_solved_and_blocked s Start v b)

-- Whether there is one is decided.
pub solution_decided : (s : System) (Start : ℕ → Type 0) → StartBelow s.variables Start → Solution s Start ⊎ (Solution s Start → ⊥)
solution_decided s Start starts = ⊎_elim (λ v. inl v) (λ b. inr ((blocked_exactly s Start starts).1 b)) (strong s Start starts)

-- Each variable of two starts is finite in some solution exactly when each of the one and each of the other is.
pub either_solved : (s : System) (A B : ℕ → Type 0) → AllSolved s (Either A B) ↔ (AllSolved s A × AllSolved s B)
either_solved s A B = (λ all. (λ j h. all j (inl h), λ j h. all j (inr h)), λ both j. ⊎_elim (both.0 j) (both.1 j))

-- For one variable: it is finite in some solution exactly when each variable of its start is.
pub only_solved : (s : System) (k : ℕ) → Solution s (Only k) ↔ AllSolved s (Only k)
only_solved s k = (λ v j e. rw e v, λ all. all k refl)
