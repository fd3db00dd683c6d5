-- The policy iteration ends: with coefficients and caps within ±C no value lies below −(C + variables · 2C), ranks above that floor
-- fall with the values, and every step lowers their sum.
use Prim.Native.Nat.{ℕ, zero, suc, ◌+◌, ◌*◌, ◌≤◌, ◌<◌}
use mathlib.Core.Path.{◌≡◌, refl}
use mathlib.Core.Logic.{⊎_elim}
use native.Mathlib.Omega.{arith}
use lib.IntN.{ℤ, nat_abs}
use lib.Signed.{◌<ℤ◌}
use Rattle.base.proofs.Numbers.{nat_le_or_lt}
use Rattle.definitions.specs.Tropical.{Trop, bot, fin, plus, ◌⊑◌, blank_least, whole_least, larger, largest}
use Rattle.definitions.specs.Certificate.{Strategy}
use Rattle.definitions.proofs.Whole.{up, down, whole, eq_read, plus_read, minus_read, abs_read, le_or_lt}
use Rattle.definitions.proofs.Tropical.{bot_not_fin, fin_injective, larger_one}
use Rattle.duality.specs.System.{System, Arc}
use Rattle.duality.specs.Values.{value_at, exit_by, weights, exits, values, Policy, Switched, Switch}
use Rattle.duality.specs.Height.{Bounded, rank, total, depth, height}
use Rattle.duality.proofs.Weights.{entry_arc, exit_picked, exit_terminal}
use Rattle.duality.proofs.Policy.{next_falls, next_strict}

-- ---- sums

-- Larger parts have a larger sum.
pub total_mono : (f g : ℕ → ℕ) (n : ℕ) → ((j : ℕ) → j < n → f j ≤ g j) → total f n ≤ total g n
unfolding total
total_mono f g zero h = omega arith
total_mono f g (suc n) h = omega (arith, total_mono f g n (λ j i. h j (omega arith)), h n (omega arith))

-- A sum falls where one part does and none grows.
pub total_falls : (f g : ℕ → ℕ) (n j : ℕ) → ((j : ℕ) → j < n → f j ≤ g j) → j < n → f j < g j → total f n < total g n
unfolding total
total_falls f g zero j h i b = absurd (omega arith)
total_falls f g (suc n) j h i b =
    ⊎_elim
    (λ (l : n ≤ j). let e : j ≡ n = omega arith in
    let c : f n < g n = rw e at b in omega (arith, total_mono f g n (λ j i. h j (omega arith))))
    (λ (l : j < n). omega (arith, total_falls f g n j (λ j i. h j (omega arith)) l b, h n (omega arith)))
    (nat_le_or_lt n j)

-- Each part is at most the sum.
pub total_above : (f : ℕ → ℕ) (n j : ℕ) → j < n → f j ≤ total f n
unfolding total
total_above f zero j h = absurd (omega arith)
total_above f (suc n) j h =
    ⊎_elim
    (λ (l : n ≤ j). let e : j ≡ n = omega arith in rw e (omega arith))
    (λ (l : j < n). omega (arith, total_above f n j l))
    (nat_le_or_lt n j)

-- ---- ranks

-- A number that is blank or at least −c.
pub record Floored (c : ℕ) (x : Trop) : Type 0 where
  pub floor : (v : ℤ) → x ≡ fin v → down v ≤ c + up v

-- Ranks grow with the numbers,
pub rank_mono : (c : ℕ) {x y : Trop} → x ⊑ y → rank c x ≤ rank c y
unfolding rank
rank_mono c blank_least = omega arith
rank_mono c (whole_least {a = a} {b = b} h) = omega whole

-- strictly above the floor.
pub rank_strict : (c : ℕ) (x y : Trop) → Floored c y → ((y ⊑ x) → ⊥) → rank c x < rank c y
unfolding rank
rank_strict c x bot f h = absurd (h blank_least)
rank_strict c bot (fin v) f h = omega (arith, f.floor v refl)
rank_strict c (fin u) (fin v) f h =
    ⊎_elim (λ k. absurd (h (whole_least k))) (λ (k : u <ℤ v). omega (whole, f.floor v refl)) (le_or_lt v u)

-- ---- the floor

floored_more : {c d : ℕ} {x : Trop} → c ≤ d → Floored c x → Floored d x
floored_more h f = record { floor = λ v e. omega (arith, f.floor v e) }

floored_bot : (c : ℕ) → Floored c bot
floored_bot c = record { floor = λ v e. absurd (bot_not_fin e) }

floored_plus : {c d : ℕ} (x y : Trop) → Floored c x → Floored d y → Floored (c + d) (plus x y)
unfolding plus
floored_plus {c} {d} bot y f g = floored_bot (c + d)
floored_plus {c} {d} (fin a) bot f g = floored_bot (c + d)
floored_plus (fin a) (fin b) f g = record
    { floor = λ v e. omega (arith, f.floor a refl, g.floor b refl, plus_read a b, eq_read (fin_injective e)) }

floored_larger : {c : ℕ} (x y : Trop) → Floored c x → Floored c y → Floored c (larger x y)
floored_larger x y f g = ⊎_elim (λ e. rw e f) (λ e. rw e g) (larger_one x y)

floored_largest : {c : ℕ} (f : ℕ → Trop) (n : ℕ) → ((j : ℕ) → j < n → Floored c (f j)) → Floored c (largest f n)
unfolding largest
floored_largest {c} f zero h = floored_bot c
floored_largest f (suc n) h = floored_larger (largest f n) (f n) (floored_largest f n (λ j i. h j (omega arith))) (h n (omega arith))

-- Entries of at least −D and exits of at least −E: the values after k rounds are at least −(E + k · D).
pub value_floor : (W : ℕ → ℕ → Trop) (exits : ℕ → Trop) (N D E : ℕ) → ((j l : ℕ) → j < N → l < N → Floored D (W j l))
    → ((j : ℕ) → j < N → Floored E (exits j)) → (k j : ℕ) → j < N → Floored (E + k * D) (value_at W exits N k j)
unfolding value_at
value_floor W exits N D E a x zero j h = floored_more (omega arith) (x j h)
value_floor W exits N D E a x (suc k) j h =
    floored_larger _ _ (floored_more (omega arith) (x j h))
    (floored_largest _ N (λ l i. floored_more (omega arith) (floored_plus (W j l) (value_at W exits N k l) (a j l h i) (value_floor W exits N D E a x k l i))))

-- An exit is blank or the cap.
pub exit_floor : (s : System) (E i j : ℕ) → nat_abs (s.caps j) ≤ E → Floored E (exit_by s i j)
exit_floor s E i j b = ⊎_elim
    (λ h. rw (exit_terminal s i j h) (record { floor = λ v e. omega (arith, b, abs_read (s.caps j), eq_read (fin_injective e)) }))
    (λ h. rw (exit_picked s i j h) (floored_bot E))
    (nat_le_or_lt s.rows i)

module _ (s : System) (C : ℕ) (bounded : Bounded s C) where
  weight_floor : (τ : Strategy) (j l : ℕ) → j < s.variables → l < s.variables → Floored (2 * C) (weights s τ j l)
  weight_floor τ j l h i = record { floor = λ w e. of_arc w (entry_arc s τ (record { inside = i; entry = e })) }
    where
      of_arc : (w : ℤ) → Arc s τ j l w → down w ≤ 2 * C + up w
      of_arc w a = omega (
        whole,
        a.weighs,
        minus_read a.b a.a,
        abs_read a.a,
        abs_read a.b,
        bounded.left (τ j) j a.a a.picked h a.left_is,
        bounded.right (τ j) l a.b a.picked i a.right_is,
      )

  -- No value lies below −(C + variables · 2C).
  pub values_floor : (τ : Strategy) (j : ℕ) → j < s.variables → Floored (depth s C) (values s τ j)
  unfolding values
  values_floor τ j h = value_floor (weights s τ) (exits s τ) s.variables (2 * C) C (weight_floor τ) (λ j h. exit_floor s C (τ j) j (bounded.caps j h)) s.variables j h

  -- Values that fall, somewhere strictly, lower the height.
  pub height_lower : (τ τ' : Strategy) → ((j : ℕ) → j < s.variables → values s τ' j ⊑ values s τ j)
      → (j : ℕ) → j < s.variables → ((values s τ j ⊑ values s τ' j) → ⊥) → height s C τ' < height s C τ
  unfolding height
  height_lower τ τ' falls j h c =
      total_falls _ _ s.variables j (λ j i. rank_mono (depth s C) (falls j i)) h (rank_strict (depth s C) _ _ (values_floor τ j h) c)

  -- A step that switches a variable does.
  pub height_falls : (τ τ' : Strategy) → Policy s τ → Switch s τ τ' → (j : ℕ) → j < s.variables → Switched s τ τ' j
      → height s C τ' < height s C τ
  height_falls τ τ' policy switch j h c = height_lower τ τ' (next_falls s τ τ' policy switch) j h (next_strict s τ τ' policy switch j h c)
