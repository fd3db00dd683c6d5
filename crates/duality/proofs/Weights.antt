-- The matrix of a strategy: its entries are the strategy's arcs, a round is one difference a variable, and where every
-- closed walk weighs below zero the values are stable.
use Prim.Native.Nat.{ℕ, zero, suc, ◌≤◌, ◌<◌}
use mathlib.Core.Path.{◌≡◌, refl, ap, sym, subst, ◌∙◌}
use mathlib.Core.Logic.{⊎_elim}
use native.Mathlib.Omega.{arith}
use lib.IntN.{ℤ, pos, neg_ℤ, ◌+ℤ◌, ◌-ℤ◌}
use lib.Signed.{◌≤ℤ◌, ◌<ℤ◌}
use borrow.Author.Tests.{lt-ltb, le-ltb}
use Rattle.base.proofs.Numbers.{nat_le_or_lt}
use Rattle.definitions.specs.Tropical.{Trop, bot, fin, plus, ◌⊑◌, blank_least, larger, largest}
use Rattle.definitions.specs.Certificate.{Strategy, Walk}
use Rattle.definitions.proofs.Whole.{whole, plus_read, minus_read}
use Rattle.definitions.proofs.Tropical.{bot_not_fin, fin_injective, ⊑_of_eq, ⊑_antisym, below_bot, plus_comm, plus_assoc, bot_plus, largest_least, largest_ext, largest_plus}
use Rattle.duality.specs.System.{System, side_of, Arc}
use Rattle.duality.specs.Values.{value_at, difference, weight_by, exit_by, weights, exits, values_after, values}
use Rattle.duality.proofs.Walks.{walk_change}
use Rattle.duality.proofs.Longest.{Stable, exit_value, round_least, value_still, value_fixed, still_stable}
use Rattle.duality.specs.Gains.{Entry}

-- ---- differences

-- Less blank is blank,
pub difference_bot : (x : Trop) → difference x bot ≡ bot
unfolding difference
difference_bot bot = refl
difference_bot (fin b) = refl

-- and to take a whole number away is to add its opposite.
pub difference_plus : (x : Trop) (a : ℤ) → difference x (fin a) ≡ plus x (fin (neg_ℤ a))
unfolding difference plus
difference_plus bot a = refl
difference_plus (fin b) a = refl

-- What was taken away can be added again.
pub difference_back : (x y : Trop) (a : ℤ) → plus (fin a) (plus (difference x (fin a)) y) ≡ plus x y
unfolding difference plus
difference_back bot y a = refl
difference_back (fin b) bot a = refl
difference_back (fin b) (fin c) a =
    let e : (a +ℤ ((b -ℤ a) +ℤ c)) ≡ (b +ℤ c) = omega (whole, plus_read a ((b -ℤ a) +ℤ c), plus_read (b -ℤ a) c, minus_read b a, plus_read b c) in
    ap fin e

pub difference_whole : (x : Trop) (a : ℤ) → plus (fin a) (difference x (fin a)) ≡ x
unfolding difference plus
difference_whole bot a = refl
difference_whole (fin b) a = let e : (a +ℤ (b -ℤ a)) ≡ b = omega (whole, plus_read a (b -ℤ a), minus_read b a) in ap fin e

-- A difference moves out of the largest.
pub difference_largest : (f x : ℕ → Trop) (a : Trop) (k : ℕ)
    → largest (λ l. plus (difference (f l) a) (x l)) k ≡ difference (largest (λ l. plus (f l) (x l)) k) a
difference_largest f x bot k =
    let none : largest (λ l. plus (difference (f l) bot) (x l)) k ⊑ bot =
    largest_least _ k (λ j h. ⊑_of_eq (ap (λ z. plus z (x j)) (difference_bot (f j)) ∙ bot_plus (x j))) in
    below_bot none ∙ sym (difference_bot _)
difference_largest f x (fin a) k =
    largest_ext _ _ k (λ j h. rw difference_plus (moved (f j) (x j) (fin (neg_ℤ a))))
    ∙ largest_plus (λ l. plus (f l) (x l)) (fin (neg_ℤ a)) k
    ∙ sym (difference_plus _ a)
  where
    moved : (u v c : Trop) → plus (plus u c) v ≡ plus (plus u v) c
    moved u v c = plus_assoc u c v ∙ ap (plus u) (plus_comm c v) ∙ sym (plus_assoc u v c)

-- Two whole numbers whose difference is w.
pub record Minus (x y : Trop) (w : ℤ) : Type 0 where
  pub b : ℤ
  pub a : ℤ
  pub first_is : x ≡ fin b
  pub second_is : y ≡ fin a
  pub weighs : w ≡ b -ℤ a

-- A difference that is whole has whole parts.
pub difference_parts : (x y : Trop) {w : ℤ} → difference x y ≡ fin w → Minus x y w
unfolding difference
difference_parts bot y e = absurd (bot_not_fin e)
difference_parts (fin b) bot e = absurd (bot_not_fin e)
difference_parts (fin b) (fin a) e = record { b = b; a = a; first_is = refl; second_is = refl; weighs = sym (fin_injective e) }

-- ---- a row picked, or none

module _ (s : System) where
  -- By a row an arc weighs the difference of the coefficients,
  pub weight_picked : (i j l : ℕ) → i < s.rows → weight_by s i j l ≡ difference (s.right i l) (s.left i j)
  unfolding weight_by
  weight_picked i j l h = rw (lt-ltb i s.rows h)

  -- and there is no exit.
  pub exit_picked : (i j : ℕ) → i < s.rows → exit_by s i j ≡ bot
  unfolding exit_by
  exit_picked i j h = rw (lt-ltb i s.rows h)

  -- By none there is no arc,
  pub weight_terminal : (i j l : ℕ) → s.rows ≤ i → weight_by s i j l ≡ bot
  unfolding weight_by
  weight_terminal i j l h = rw (le-ltb i s.rows h)

  -- and the exit is the cap.
  pub exit_terminal : (i j : ℕ) → s.rows ≤ i → exit_by s i j ≡ fin (s.caps j)
  unfolding exit_by
  exit_terminal i j h = rw (le-ltb i s.rows h)

  -- An exit is at most the cap.
  pub exit_below : (i j : ℕ) → exit_by s i j ⊑ fin (s.caps j)
  exit_below i j = ⊎_elim (λ h. ⊑_of_eq (exit_terminal i j h)) (λ h. rw (exit_picked i j h) blank_least) (nat_le_or_lt s.rows i)

module _ (s : System) (τ : Strategy) where
  -- ---- a round

  -- A variable with a pick: the right side of its row, less its left coefficient.
  pub round_picked : (k j : ℕ) → τ j < s.rows
      → values_after s τ (suc k) j ≡ difference (side_of s (s.right (τ j)) (values_after s τ k)) (s.left (τ j) j)
  unfolding value_at larger
  round_picked k j h =
      rw (exit_picked s (τ j) j h)
      (largest_ext _ _ s.variables (λ l i. ap (λ z. plus z (values_after s τ k l)) (weight_picked s (τ j) j l h))
      ∙ difference_largest (s.right (τ j)) (values_after s τ k) (s.left (τ j) j) s.variables)

  -- A variable without a pick is worth its cap.
  pub round_terminal : (k j : ℕ) → s.rows ≤ τ j → values_after s τ k j ≡ fin (s.caps j)
  unfolding value_at
  round_terminal zero j h = exit_terminal s (τ j) j h
  round_terminal (suc k) j h = ⊑_antisym
      (round_least (weights s τ) (exits s τ) s.variables k j (exit_below s (τ j) j)
      (λ l i. rw (weight_terminal s (τ j) j l h, bot_plus) blank_least))
      (subst (λ z. z ⊑ values_after s τ (suc k) j) (exit_terminal s (τ j) j h) (exit_value (weights s τ) (exits s τ) s.variables (suc k) j))

  -- ---- entries and arcs

  -- An entry of the matrix is an arc of the strategy,
  pub entry_arc : {j l : ℕ} {w : ℤ} → Entry (weights s τ) s.variables j l w → Arc s τ j l w
  entry_arc {j} {l} {w} a =
      ⊎_elim
      (λ (h : s.rows ≤ τ j). absurd (bot_not_fin (sym (weight_terminal s (τ j) j l h) ∙ a.entry)))
      (λ (h : τ j < s.rows).
      let d : Minus (s.right (τ j) l) (s.left (τ j) j) w = difference_parts _ _ (sym (weight_picked s (τ j) j l h) ∙ a.entry) in
      record { picked = h; inside = a.inside; a = d.a; b = d.b; left_is = d.second_is; right_is = d.first_is; weighs = d.weighs })
      (nat_le_or_lt s.rows (τ j))

  -- and an arc is an entry.
  pub arc_entry : {j l : ℕ} {w : ℤ} → Arc s τ j l w → Entry (weights s τ) s.variables j l w
  unfolding difference
  arc_entry {j} {l} a =
      record { inside = a.inside; entry = weight_picked s (τ j) j l a.picked ∙ rw (a.left_is, a.right_is, a.weighs) }

  -- So walks along the entries are walks along the arcs,
  pub entries_arcs : {j k n : ℕ} {w : ℤ} → Walk (Entry (weights s τ) s.variables) j k n w → Walk (Arc s τ) j k n w
  entries_arcs p = walk_change (λ j l w a. entry_arc a) p

  -- and back.
  pub arcs_entries : {j k n : ℕ} {w : ℤ} → Walk (Arc s τ) j k n w → Walk (Entry (weights s τ) s.variables) j k n w
  arcs_entries p = walk_change (λ j l w a. arc_entry a) p

  -- ---- stability

  -- The values are those of any earlier round that a further one leaves as they are.
  pub values_still : (k : ℕ) → k ≤ s.variables → ((j : ℕ) → j < s.variables → values_after s τ (suc k) j ≡ values_after s τ k j)
      → (j : ℕ) → j < s.variables → values s τ j ≡ values_after s τ k j
  unfolding values
  values_still k b h j i = value_still (weights s τ) (exits s τ) s.variables k h s.variables b j i

  -- Where every closed walk weighs below zero, the values are stable.
  pub values_stable : ((j n : ℕ) (w : ℤ) → Walk (Arc s τ) j j (suc n) w → w <ℤ pos 0)
      → Stable (weights s τ) (exits s τ) s.variables (values s τ)
  unfolding values
  values_stable negative =
      still_stable (weights s τ) (exits s τ) s.variables s.variables
      (value_fixed (weights s τ) (exits s τ) s.variables (record { no_gain = gains }) s.variables (omega arith))
    where
      gains : (j n : ℕ) (w : ℤ) → 0 < n → n ≤ s.variables → Walk (Entry (weights s τ) s.variables) j j n w → w ≤ℤ pos 0
      gains j zero w h b p = absurd (omega arith)
      gains j (suc n) w h b p = let r : w <ℤ pos 0 = negative j n w (entries_arcs p) in omega whole
