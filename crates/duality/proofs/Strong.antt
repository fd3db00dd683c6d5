-- Strong duality: from every start a system has a solution with a start variable whole, or a strategy that blocks. Policy iteration
-- finds one of the two: from the strategy without picks, switch one variable to a row that fails there as long as there
-- is one; the height bounds the number of steps. A finite table of coefficients has a bound, so nothing is assumed.
use Prim.Native.Nat.{ℕ, zero, suc, ◌+◌, ◌≤◌, ◌<◌}
use mathlib.Core.Path.{◌≡◌, refl, ap}
use mathlib.Core.Bool.{Bool, true, false, cond}
use mathlib.Core.Logic.{◌⊎◌, inl, inr, ⊎_elim}
use native.Mathlib.Omega.{arith}
use lib.Dec.{eqb}
use lib.IntN.{nat_abs}
use borrow.Author.Tests.{eqb-true, eq-eqb}
use Rattle.base.proofs.Numbers.{nat_le_or_lt}
use Rattle.definitions.specs.Tropical.{Trop, bot, fin, plus, ◌⊑◌, Finite}
use Rattle.definitions.specs.Problem.{Point}
use Rattle.definitions.specs.Certificate.{Strategy}
use Rattle.definitions.proofs.Tropical.{blank_or_finite, ⊑_or_above}
use Rattle.duality.specs.Starts.{StartBelow}
use Rattle.duality.specs.System.{System, side_of, Solves, Solution, Meets, Blocks, Blocked}
use Rattle.duality.specs.Values.{values, Policy, Fails, Switched, Switch}
use Rattle.duality.specs.Height.{Bounded, total, height}
use Rattle.duality.proofs.Policy.{next_policy}
use Rattle.duality.proofs.Ends.{idle, empty_policy, finished, started_solution, blank_blocks}
use Rattle.duality.proofs.Height.{total_above, height_falls}

-- ---- finite search

-- A number below n with the property Q.
pub record Some (Q : ℕ → Type 0) (n : ℕ) : Type 0 where
  pub place : ℕ
  pub inside : place < n
  pub holds : Q place

-- Of two properties that share all numbers, all below n have the first or some has the second.
pub all_or_some : (P Q : ℕ → Type 0) → ((k : ℕ) → P k ⊎ Q k) → (n : ℕ) → ((k : ℕ) → k < n → P k) ⊎ Some Q n
all_or_some P Q d zero = inl (λ k h. absurd (omega arith))
all_or_some P Q d (suc n) = go (all_or_some P Q d n) (d n)
  where
    go : ((k : ℕ) → k < n → P k) ⊎ Some Q n → P n ⊎ Q n → ((k : ℕ) → k < suc n → P k) ⊎ Some Q (suc n)
    go (inr f) t = inr (record { place = f.place; inside = omega arith; holds = f.holds })
    go (inl f) (inr q) = inr (record { place = n; inside = omega arith; holds = q })
    go (inl f) (inl p) =
        inl (λ k h. ⊎_elim (λ (l : n ≤ k). let e : k ≡ n = omega arith in rw e p) (λ (l : k < n). f k l) (nat_le_or_lt n k))

-- ---- a bound of the coefficients

-- The size of a coefficient, 0 for blank.
unfoldable pub size : Trop → ℕ
size bot = 0
size (fin a) = nat_abs a

-- The sizes of all coefficients and caps, summed.
unfoldable pub bound : System → ℕ
bound s = total (λ i. total (λ j. size (s.left i j) + size (s.right i j)) s.variables) s.rows + total (λ j. nat_abs (s.caps j)) s.variables

bound_above : (s : System) (i j : ℕ) → i < s.rows → j < s.variables → size (s.left i j) + size (s.right i j) ≤ bound s
unfolding bound
bound_above s i j h k = omega (
  arith,
  total_above (λ i. total (λ j. size (s.left i j) + size (s.right i j)) s.variables) s.rows i h,
  total_above (λ j. size (s.left i j) + size (s.right i j)) s.variables j k,
)

cap_above : (s : System) (j : ℕ) → j < s.variables → nat_abs (s.caps j) ≤ bound s
unfolding bound
cap_above s j h = omega (arith, total_above (λ j. nat_abs (s.caps j)) s.variables j h)

-- Every system has a bound.
pub bounded : (s : System) → Bounded s (bound s)
unfolding size
bounded s = record {
  left = λ i j a h k e. omega (arith, bound_above s i j h k, ap size e);
  right = λ i j b h k e. omega (arith, bound_above s i j h k, ap size e);
  caps = λ j h. cap_above s j h;
}

-- ---- the iteration

-- No row fails anywhere.
abbrev pub Stands : System → Point → Type 0
Stands s x = (i j : ℕ) → i < s.rows → j < s.variables → plus (s.left i j) (x j) ⊑ side_of s (s.right i) x

-- A kept strategy at which no row fails.
pub record Settled (s : System) : Type 0 where
  pub strategy : Strategy
  pub policy : Policy s strategy
  pub stands : Stands s (values s strategy)

-- A row that fails, and where.
record Failing (s : System) (τ : Strategy) : Type 0 where
  row : ℕ
  at : ℕ
  row_inside : row < s.rows
  inside : at < s.variables
  fails : Fails s (values s τ) row at

-- The strategy with one pick changed.
pick : Strategy → ℕ → ℕ → Strategy
pick τ j i k = cond (eqb k j) i (τ k)

pick_same : (τ : Strategy) (j i : ℕ) → pick τ j i j ≡ i
unfolding pick
pick_same τ j i = rw (eq-eqb j j refl)

module _ (s : System) where
  -- No row fails, or one that does is found.
  failing : (τ : Strategy) → Stands s (values s τ) ⊎ Failing s τ
  failing τ = ⊎_elim (λ h. inl (λ i j r v. h i r j v)) (λ f. inr (found f)) (all_or_some _ _ by_row s.rows)
    where
      Keeps : ℕ → ℕ → Type 0
      Keeps i j = plus (s.left i j) (values s τ j) ⊑ side_of s (s.right i) (values s τ)

      by_row : (i : ℕ) → ((j : ℕ) → j < s.variables → Keeps i j) ⊎ Some (λ j. Keeps i j → ⊥) s.variables
      by_row i = all_or_some _ _ (λ j. ⊎_elim (λ h. inl h) (λ h. inr h.1) (⊑_or_above _ _)) s.variables

      found : Some (λ i. Some (λ j. Keeps i j → ⊥) s.variables) s.rows → Failing s τ
      found f = record
          { row = f.place; at = f.holds.place; row_inside = f.inside; inside = f.holds.inside; fails = f.holds.holds }

  -- To pick it switches the variable,
  picked_switched : (τ : Strategy) (f : Failing s τ) → Switched s τ (pick τ f.at f.row) f.at
  picked_switched τ f =
      let e : pick τ f.at f.row f.at ≡ f.row = pick_same τ f.at f.row in
      record { picked = rw e f.row_inside; fails = rw e f.fails }

  -- and no other.
  picked_switch : (τ : Strategy) (f : Failing s τ) → Switch s τ (pick τ f.at f.row)
  unfolding pick
  picked_switch τ f j h = go (eqb j f.at) refl
    where
      go : (t : Bool) → eqb j f.at ≡ t → (pick τ f.at f.row j ≡ τ j) ⊎ Switched s τ (pick τ f.at f.row) j
      go true e = inr (rw (eqb-true j f.at e) (picked_switched τ f))
      go false e = inl (rw e)

  -- Steps are taken until no row fails.
  settle : (fuel : ℕ) (τ : Strategy) → Policy s τ → height s (bound s) τ < fuel → Settled s
  settle zero τ policy b = absurd (omega arith)
  settle (suc fuel) τ policy b =
      ⊎_elim
      (λ h. record { strategy = τ; policy = policy; stands = h })
      (λ f. settle fuel (pick τ f.at f.row) (next_policy s τ _ policy (picked_switch τ f))
      (omega (arith, height_falls s (bound s) (bounded s) τ _ policy (picked_switch τ f) f.at f.inside (picked_switched τ f))))
      (failing τ)

  -- Every system has a kept strategy at which no row fails.
  pub settled : Settled s
  settled = settle (suc (height s (bound s) (idle s))) (idle s) (empty_policy s) (omega arith)

-- ---- strong duality

-- Of numbers for the variables, all of a start are blank or one is finite.
pub blank_or_met : (s : System) {Start : ℕ → Type 0} → StartBelow s.variables Start → (x : Point)
    → ((j : ℕ) → Start j → x j ≡ bot) ⊎ Meets s Start x
blank_or_met s {Start} starts x = ⊎_elim
    (λ b. inl (λ j h. b j (starts.inside j h) h))
    (λ f. inr (record { at = f.place; inside = f.inside; started = f.holds.0; finite = f.holds.1 }))
    (all_or_some _ _ (λ j. go j (starts.decided j) (blank_or_finite (x j))) s.variables)
  where
    go : (j : ℕ) → Start j ⊎ (Start j → ⊥) → (x j ≡ bot) ⊎ Finite (x j) → (Start j → x j ≡ bot) ⊎ (Start j × Finite (x j))
    go j d (inl e) = inl (λ _. e)
    go j (inl b) (inr f) = inr (b, f)
    go j (inr n) (inr f) = inl (λ b. absurd (n b))

-- From every start at once: a kept strategy has a finite value there, or it blocks.
pub met_or_blocks : (s : System) {Start : ℕ → Type 0} (τ : Strategy) → StartBelow s.variables Start → Policy s τ
    → Meets s Start (values s τ) ⊎ Blocks s Start τ
met_or_blocks s {Start} τ starts policy =
    ⊎_elim (λ b. inr (blank_blocks s τ policy Start (λ j h. (starts.inside j h, b j h)))) inl (blank_or_met s starts (values s τ))

-- From every start there is a solution, or some strategy blocks.
pub strong : (s : System) (Start : ℕ → Type 0) → StartBelow s.variables Start → Solution s Start ⊎ Blocked s Start
strong s Start starts = ⊎_elim
    (λ m. inl (started_solution s Start (values s τ) solves m.at m.inside m.started m.finite))
    (λ b. inr (record { strategy = τ; blocks = b }))
    (met_or_blocks s τ starts (settled s).policy)
  where
    τ : Strategy
    τ = (settled s).strategy

    solves : Solves s (values s τ)
    solves = finished s (values s τ) (settled s).stands
