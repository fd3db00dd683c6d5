-- Sizes: a number that is blank or within d of 0, and how they grow along rounds.
use Prim.Native.Nat.{ℕ, zero, suc, ◌+◌, ◌*◌, ◌≤◌, ◌<◌}
use mathlib.Core.Path.{◌≡◌, refl, sym}
use mathlib.Core.Logic.{⊎_elim}
use native.Mathlib.Omega.{arith}
use native.Mathlib.Nat.{eq-zero-or-pos}
use lib.IntN.{ℤ, sub_ℕ, nat_abs, ◌+ℤ◌, ◌-ℤ◌}
use Rattle.base.proofs.Numbers.{nat_le_or_lt}
use Rattle.definitions.specs.Limits.{signed_half}
use Rattle.definitions.specs.Tropical.{Trop, bot, fin, plus, larger, largest}
use Rattle.definitions.specs.Offset.{trop_of}
use Rattle.definitions.proofs.Whole.{plus_read, minus_read, abs_read, abs_show, subℕ_read}
use Rattle.definitions.proofs.Tropical.{bot_not_fin, fin_injective, larger_one}
use Rattle.definitions.proofs.Offset.{trop_read, trop_fin}
use Rattle.duality.specs.System.{System}
use Rattle.duality.specs.Values.{value_at, difference, weights, exits, values_after}
use Rattle.duality.proofs.Weights.{weight_picked, weight_terminal, exit_picked, exit_terminal}
use Rattle.definitions.specs.Certificate.{Strategy}
use Rattle.records.specs.Decoded.{Near}

-- Blank, or within d of 0.
pub record Small (d : ℕ) (x : Trop) : Type 0 where
  pub size : (z : ℤ) → x ≡ fin z → nat_abs z ≤ d

pub near_small : (d k : ℕ) → Near d k → Small d (trop_of k)
near_small d k n = record { size = λ z e. let r = trop_read k e in let l = n.lo r.0 in abs_show z (omega (arith, r.1, n.hi)) (omega (arith, r.1)) }

pub near_abs : (d k : ℕ) → 0 < k → Near d k → nat_abs (sub_ℕ k signed_half) ≤ d
near_abs d k h n = (near_small d k n).size (sub_ℕ k signed_half) (trop_fin k h)

pub small_near : (d k : ℕ) → Small d (trop_of k) → Near d k
small_near d k s = ⊎_elim
    (λ (e : k ≡ 0). record { hi = omega arith; lo = λ h. absurd (omega arith) })
    (λ (h : 0 < k). let b = s.size (sub_ℕ k signed_half) (trop_fin k h) in record {
      hi = omega (arith, b, abs_read (sub_ℕ k signed_half), subℕ_read k signed_half);
      lo = λ _. omega (arith, b, abs_read (sub_ℕ k signed_half), subℕ_read k signed_half);
    })
    (eq-zero-or-pos k)

small_bot : (d : ℕ) → Small d bot
small_bot d = record { size = λ z e. absurd (bot_not_fin e) }

small_fin : (d : ℕ) (z : ℤ) → nat_abs z ≤ d → Small d (fin z)
small_fin d z h = record { size = λ y e. rw (sym (fin_injective e)) h }

pub small_more : {c d : ℕ} {x : Trop} → c ≤ d → Small c x → Small d x
small_more h s = record { size = λ z e. omega (arith, s.size z e) }

pub small_plus : {c d : ℕ} (x y : Trop) → Small c x → Small d y → Small (c + d) (plus x y)
unfolding plus
small_plus {c} {d} bot y s t = small_bot (c + d)
small_plus {c} {d} (fin a) bot s t = small_bot (c + d)
small_plus {c} {d} (fin a) (fin b) s t =
    small_fin (c + d) (a +ℤ b) (abs_show (a +ℤ b)
    (omega (arith, plus_read a b, abs_read a, abs_read b, s.size a refl, t.size b refl))
    (omega (arith, plus_read a b, abs_read a, abs_read b, s.size a refl, t.size b refl)))

pub small_difference : {c d : ℕ} (x y : Trop) → Small c x → Small d y → Small (c + d) (difference x y)
unfolding difference
small_difference {c} {d} bot y s t = small_bot (c + d)
small_difference {c} {d} (fin a) bot s t = small_bot (c + d)
small_difference {c} {d} (fin a) (fin b) s t =
    small_fin (c + d) (a -ℤ b) (abs_show (a -ℤ b)
    (omega (arith, minus_read a b, abs_read a, abs_read b, s.size a refl, t.size b refl))
    (omega (arith, minus_read a b, abs_read a, abs_read b, s.size a refl, t.size b refl)))

small_larger : {d : ℕ} (x y : Trop) → Small d x → Small d y → Small d (larger x y)
small_larger x y s t = ⊎_elim (λ e. rw e s) (λ e. rw e t) (larger_one x y)

pub small_largest : {d : ℕ} (f : ℕ → Trop) (n : ℕ) → ((j : ℕ) → j < n → Small d (f j)) → Small d (largest f n)
unfolding largest
small_largest {d} f zero h = small_bot d
small_largest f (suc n) h = small_larger (largest f n) (f n) (small_largest f n (λ j i. h j (omega arith))) (h n (omega arith))

-- Entries within D and exits within E: the values after k rounds lie within E + k · D.
value_small : (W : ℕ → ℕ → Trop) (exits : ℕ → Trop) (N D E : ℕ) → ((j l : ℕ) → l < N → Small D (W j l)) → ((j : ℕ) → j < N → Small E (exits j))
    → (k j : ℕ) → j < N → Small (E + k * D) (value_at W exits N k j)
unfolding value_at
value_small W exits N D E a x zero j h = small_more (omega arith) (x j h)
value_small W exits N D E a x (suc k) j h =
    small_larger _ _ (small_more (omega arith) (x j h))
    (small_largest _ N (λ l i. small_more (omega arith) (small_plus (W j l) (value_at W exits N k l) (a j l i) (value_small W exits N D E a x k l i))))

-- Coefficients within c and d and caps within e: the values of a strategy after k rounds lie within e + k · (d + c).
pub rounds_small : (s : System) (c d e : ℕ) → ((i j : ℕ) → Small c (s.left i j)) → ((i j : ℕ) → Small d (s.right i j))
    → ((j : ℕ) → j < s.variables → nat_abs (s.caps j) ≤ e) → (τ : Strategy) (k j : ℕ) → j < s.variables → Small (e + k * (d + c)) (values_after s τ k j)
rounds_small s c d e l r b τ = value_small (weights s τ) (exits s τ) s.variables (d + c) e weight exit
  where
    weight : (j i : ℕ) → i < s.variables → Small (d + c) (weights s τ j i)
    weight j i h = ⊎_elim
        (λ t. rw (weight_terminal s (τ j) j i t) (small_bot (d + c)))
        (λ t. rw (weight_picked s (τ j) j i t) (small_difference _ _ (r (τ j) i) (l (τ j) j)))
        (nat_le_or_lt s.rows (τ j))

    exit : (j : ℕ) → j < s.variables → Small e (exits s τ j)
    exit j h = ⊎_elim
        (λ t. rw (exit_terminal s (τ j) j t) (small_fin e (s.caps j) (b j h)))
        (λ t. rw (exit_picked s (τ j) j t) (small_bot e))
        (nat_le_or_lt s.rows (τ j))
