-- Where the policy iteration starts and ends. The strategy without picks is kept. Where no row fails the values solve the
-- system; a start variable with a whole value makes them a solution, and where all start variables are blank the
-- strategy blocks: everything reachable is blank and has a pick.
use Prim.Native.Nat.{ℕ, ◌≤◌, ◌<◌}
use mathlib.Core.Path.{◌≡◌, refl, sym, ◌∙◌}
use mathlib.Core.Logic.{⊎_elim}
use native.Mathlib.Omega.{arith}
use lib.IntN.{ℤ, ◌-ℤ◌}
use Rattle.base.proofs.Numbers.{nat_le_or_lt}
use Rattle.definitions.specs.Tropical.{bot, plus, ◌⊑◌, Finite}
use Rattle.definitions.specs.Problem.{Point}
use Rattle.definitions.specs.Certificate.{Strategy, Walk, stop, step, Reachable, start, onward}
use Rattle.definitions.proofs.Tropical.{bot_not_fin, not_finite_bot, finite_above, blank_or_finite, ⊑_of_eq, plus_fin, largest_least}
use Rattle.duality.specs.System.{System, side_of, Solves, Solution, Leads, Arc, Blocks}
use Rattle.duality.specs.Values.{weights, exits, values, Policy}
use Rattle.duality.proofs.Longest.{entries_end, stable_potential}
use Rattle.duality.proofs.Weights.{round_terminal, arc_entry, arcs_entries, values_stable}

-- ---- the start

-- The strategy without picks.
unfoldable pub idle : System → Strategy
idle s j = s.rows

idle_still : (s : System) (τ : Strategy) → ((j : ℕ) → j < s.variables → s.rows ≤ τ j) → {j k n : ℕ} {w : ℤ} → 0 < n → j < s.variables → Walk (Arc s τ) j k n w → ⊥
idle_still s τ none h b stop = omega arith
idle_still s τ none h b (step {j = j} a r) = omega (arith, a.picked, none j b)

-- A strategy without picks is kept: nothing moves, and every value is the cap.
pub none_policy : (s : System) (τ : Strategy) → ((j : ℕ) → j < s.variables → s.rows ≤ τ j) → Policy s τ
unfolding values
none_policy s τ none = record {
  valid = λ j h p. absurd (omega (arith, none j h));
  negative = λ j n w r. absurd (idle_still s τ none (omega arith) (entries_end (omega arith) (arcs_entries s τ r)) r);
  below = λ j h. ⊑_of_eq (round_terminal s τ s.variables j (none j h));
}

pub empty_policy : (s : System) → Policy s (idle s)
unfolding idle
empty_policy s = none_policy s (idle s) (λ j h. omega arith)

-- ---- the end

-- Where no row fails anywhere the point solves the system.
pub finished : (s : System) (x : Point)
    → ((i j : ℕ) → i < s.rows → j < s.variables → plus (s.left i j) (x j) ⊑ side_of s (s.right i) x) → Solves s x
finished s x h i r = largest_least _ s.variables (λ j l. h i j r l)

-- A start variable with a whole value makes it a solution.
pub started_solution : (s : System) (Start : ℕ → Type 0) (x : Point) → Solves s x
    → (j : ℕ) → j < s.variables → Start j → Finite (x j) → Solution s Start
started_solution s Start x h j i b f = record { point = x; solves = h; at = j; inside = i; started = b; finite = f }

module _ (s : System) (τ : Strategy) (policy : Policy s τ) where
  -- What a blank variable leads to is blank.
  blank_onward : (j l : ℕ) → j < s.variables → values s τ j ≡ bot → Leads s τ j l → values s τ l ≡ bot
  blank_onward j l h e b = ⊎_elim (λ n. n) (λ f. absurd (clash f)) (blank_or_finite (values s τ l))
    where
      clash : Finite (values s τ l) → ⊥
      clash f =
          let c : Finite (s.left (τ j) j) = policy.valid j h b.picked in
          let a : Arc s τ j l (b.right.whole -ℤ c.whole) =
          record {
            picked = b.picked;
            inside = b.inside;
            a = c.whole;
            b = b.right.whole;
            left_is = c.is;
            right_is = b.right.is;
            weighs = refl;
          } in
          let u : plus (weights s τ j l) (values s τ l) ⊑ values s τ j =
          (stable_potential (weights s τ) (exits s τ) s.variables (values_stable s τ policy.negative)).bounds j l h b.inside in
          not_finite_bot (finite_above (rw ((arc_entry s τ a).entry, f.is, plus_fin, e) at u))

  -- A blank variable has a pick.
  blank_picks : (j : ℕ) → j < s.variables → values s τ j ≡ bot → τ j < s.rows
  unfolding values
  blank_picks j h e =
      ⊎_elim (λ (t : s.rows ≤ τ j). absurd (bot_not_fin (sym e ∙ round_terminal s τ s.variables j t))) (λ p. p) (nat_le_or_lt s.rows (τ j))

  -- Blank start variables: the strategy blocks.
  pub blank_blocks : (Start : ℕ → Type 0) → ((j : ℕ) → Start j → (j < s.variables) × (values s τ j ≡ bot)) → Blocks s Start τ
  blank_blocks Start blank = record {
    counts = λ j r. let p = blank_picks j (reached r).0 (reached r).1 in record { picked = p; left = policy.valid j (reached r).0 p };
    negative = λ w c. policy.negative c.at c.arcs w c.walk;
  }
    where
      reached : {j : ℕ} → Reachable Start (Leads s τ) j → (j < s.variables) × (values s τ j ≡ bot)
      reached (start b) = blank _ b
      reached (onward r l) = (l.inside, blank_onward _ _ (reached r).0 (reached r).1 l)
