-- Laws of natural numbers that case splits use, and of the larger of two.
use Prim.Native.Nat.{ℕ, zero, suc, ◌+◌, ◌*◌, ◌-◌, ◌≤◌, ◌<◌, max}
use mathlib.Core.Path.{◌≡◌, refl, sym, subst, ◌∙◌}
use mathlib.Core.Bool.{Bool, true, false, cond}
use mathlib.Core.Logic.{◌⊎◌, inl, inr, ⊎_elim}
use native.Mathlib.Omega.{arith}
use native.Mathlib.Nat.{eq-zero-or-pos}
use native.Mathlib.Numerals.{add-one}
use lib.Dec.{eqb, leb}
use borrow.Author.Tests.{eqb-true, eqb-false, leb-true, leb-false, le-leb, lt-leb}
use Rattle.base.specs.Numbers.{most, uppermost}

-- Natural numbers are ordered one way or the other.
pub nat_le_or_lt : (a b : ℕ) → (a ≤ b) ⊎ (b < a)
nat_le_or_lt a b = go (leb a b) refl
  where
    go : (t : Bool) → leb a b ≡ t → (a ≤ b) ⊎ (b < a)
    go true e = inl (leb-true a b e)
    go false e = inr (leb-false a b e)

-- Two numbers are the same or not.
pub same_or_not : (a b : ℕ) → (a ≡ b) ⊎ (a ≡ b → ⊥)
same_or_not a b = go (eqb a b) refl
  where
    go : (t : Bool) → eqb a b ≡ t → (a ≡ b) ⊎ (a ≡ b → ⊥)
    go true e = inl (eqb-true a b e)
    go false e = inr (eqb-false a b e)

-- What is not 0 is above it.
pub positive : (k : ℕ) → (k ≡ 0 → ⊥) → 0 < k
positive k h = ⊎_elim (λ e. absurd (h e)) (λ p. p) (eq-zero-or-pos k)

-- Below one more: below, or the last.
pub below_or_last : (k n : ℕ) → k < n + 1 → (k < n) ⊎ (k ≡ n)
below_or_last k n h = ⊎_elim (λ (l : n ≤ k). inr (omega arith)) (λ (l : k < n). inl l) (nat_le_or_lt n k)

-- What holds below n and at n holds below n + 1.
pub one_more : {P : ℕ → Type 0} (n : ℕ) → ((k : ℕ) → k < n → P k) → P n → (k : ℕ) → k < n + 1 → P k
one_more {P} n h e k b = ⊎_elim (λ l. h k l) (λ q. subst P (sym q) e) (below_or_last k n b)

-- ---- the larger of two

-- It is one of the two, and at least both.
pub most_one : (a b : ℕ) → ((most a b ≡ b) × (a ≤ b)) ⊎ ((most a b ≡ a) × (b ≤ a))
unfolding most
most_one a b = go (leb a b) refl
  where
    go : (t : Bool) → leb a b ≡ t → ((cond t b a ≡ b) × (a ≤ b)) ⊎ ((cond t b a ≡ a) × (b ≤ a))
    go true e = inl (refl, leb-true a b e)
    go false e = let h : b < a = leb-false a b e in inr (refl, omega arith)

pub most_second : (a b : ℕ) → a ≤ b → b ≡ most a b
unfolding most
most_second a b h = rw (le-leb a b h)

pub most_first : (a b : ℕ) → b < a → a ≡ most a b
unfolding most
most_first a b h = rw (lt-leb a b h)

-- What the library's `max` answers is the larger of two.
pub max_most : (a b : ℕ) → max a b ≡ most a b
max_most a b = ⊎_elim (λ h. omega arith) (λ h. omega arith) (most_one a b)

pub most_left : (a b : ℕ) → a ≤ most a b
most_left a b = ⊎_elim (λ h. omega arith) (λ h. omega arith) (most_one a b)

pub most_right : (a b : ℕ) → b ≤ most a b
most_right a b = ⊎_elim (λ h. omega arith) (λ h. omega arith) (most_one a b)

pub most_under : (a b d : ℕ) → a ≤ d → b ≤ d → most a b ≤ d
most_under a b d h k = ⊎_elim (λ l. omega arith) (λ l. omega arith) (most_one a b)

pub most_zero : (a : ℕ) → most a 0 ≡ a
most_zero a = ⊎_elim (λ h. omega arith) (λ h. omega arith) (most_one a 0)

-- ---- the largest of several

pub uppermost_none : (f : ℕ → ℕ) → 0 ≡ uppermost f 0
unfolding uppermost
uppermost_none f = refl

pub uppermost_more : (f : ℕ → ℕ) (k best r : ℕ) → best ≡ uppermost f k → r ≡ most best (f k) → r ≡ uppermost f (k + 1)
unfolding uppermost
uppermost_more f k best r e d = d ∙ rw (e, add-one, uppermost)

-- At most what all are.
pub uppermost_most : (f : ℕ → ℕ) (k B : ℕ) → ((l : ℕ) → l < k → f l ≤ B) → uppermost f k ≤ B
unfolding uppermost
uppermost_most f zero B h = omega arith
uppermost_most f (suc k) B h = most_under (uppermost f k) (f k) B (uppermost_most f k B (λ l b. h l (omega arith))) (h k (omega arith))

-- ---- dividing

-- A number below d × c is some turns of d, fewer than c, and a rest below d.
pub record Divided (d k c : ℕ) : Type 0 where
  pub turns : ℕ
  pub rest : ℕ
  pub is : k ≡ turns * d + rest
  pub few : turns < c
  pub small : rest < d

pub divided : (d k c : ℕ) → k < c * d → Divided d k c
divided d k zero h = absurd (omega arith)
divided d k (suc c) h = ⊎_elim
    (λ (b : c * d ≤ k). record { turns = c; rest = k - c * d; is = omega arith; few = omega arith; small = omega arith })
    (λ (b : k < c * d). let r = divided d k c b in record { turns = r.turns; rest = r.rest; is = r.is; few = omega (arith, r.few); small = r.small })
    (nat_le_or_lt (c * d) k)
