-- Linear facts of whole numbers by one call of `omega`, which reads natural numbers only.
-- A whole number z is `up z` − `down z`. The laws `…_read` turn an order, an equation or a sum of ℤ into one of ℕ,
-- the laws `…_show` turn it back: `omega (whole, plus_read a c, plus_read b d)` proves a + c < b + d from a ≤ b and c < d.
use Prim.Native.Nat.{ℕ, zero, suc, ◌+◌, ◌-◌, ◌≤◌, ◌<◌}
use mathlib.Core.Path.{◌≡◌, refl, ap, subst}
use mathlib.Core.Bool.{Bool, true, false, cond}
use mathlib.Core.Logic.{◌⊎◌, inl, inr, ⊎_elim}
use native.Mathlib.Omega.{arith}
use lib.Dec.{T, ltb, ltb→lt, leb→le, lt→ltb, le→leb}
use lib.IntN.{ℤ, pos, negsuc, sub_ℕ, neg_ℤ, nat_abs, ◌+ℤ◌, ◌-ℤ◌}
use lib.Signed.{◌≤ℤ◌, ◌<ℤ◌, le_z, lt_z}
use borrow.Author.Tests.{ltb-true, ltb-false}
use Rattle.base.proofs.Numbers.{nat_le_or_lt}

abbrev pub up : ℤ → ℕ
up (pos n) = n
up (negsuc n) = 0

abbrev pub down : ℤ → ℕ
down (pos n) = 0
down (negsuc n) = suc n

-- One of the two parts is zero, which makes the parts unique.
le_read' : (a b : ℤ) → T (le_z a b) → up a + down b ≤ up b + down a
le_read' (pos a) (pos b) t = omega (arith, leb→le a b t)
le_read' (pos a) (negsuc b) t = absurd t
le_read' (negsuc a) (pos b) t = omega arith
le_read' (negsuc a) (negsuc b) t = omega (arith, leb→le b a t)

pub le_read : {a b : ℤ} → a ≤ℤ b → up a + down b ≤ up b + down a
le_read {a} {b} h = le_read' a b h.le

le_show' : (a b : ℤ) → up a + down b ≤ up b + down a → T (le_z a b)
le_show' (pos a) (pos b) h = le→leb a b (omega arith)
le_show' (pos a) (negsuc b) h = omega arith
le_show' (negsuc a) (pos b) h = tt
le_show' (negsuc a) (negsuc b) h = le→leb b a (omega arith)

pub le_show : {a b : ℤ} → up a + down b ≤ up b + down a → a ≤ℤ b
le_show {a} {b} h = record { le = le_show' a b h }

lt_read' : (a b : ℤ) → T (lt_z a b) → up a + down b < up b + down a
lt_read' (pos a) (pos b) t = omega (arith, ltb→lt a b t)
lt_read' (pos a) (negsuc b) t = absurd t
lt_read' (negsuc a) (pos b) t = omega arith
lt_read' (negsuc a) (negsuc b) t = omega (arith, ltb→lt b a t)

pub lt_read : {a b : ℤ} → a <ℤ b → up a + down b < up b + down a
lt_read {a} {b} h = lt_read' a b h.lt

lt_show' : (a b : ℤ) → up a + down b < up b + down a → T (lt_z a b)
lt_show' (pos a) (pos b) h = lt→ltb a b (omega arith)
lt_show' (pos a) (negsuc b) h = omega arith
lt_show' (negsuc a) (pos b) h = tt
lt_show' (negsuc a) (negsuc b) h = lt→ltb b a (omega arith)

pub lt_show : {a b : ℤ} → up a + down b < up b + down a → a <ℤ b
lt_show {a} {b} h = record { lt = lt_show' a b h }

pub eq_read : {a b : ℤ} → a ≡ b → up a + down b ≡ up b + down a
eq_read {a} {b} e = subst (λ (z : ℤ). up a + down z ≡ up z + down a) e (omega arith)

eq_show' : (a b : ℤ) → up a + down b ≡ up b + down a → a ≡ b
eq_show' (pos a) (pos b) h = let e : a ≡ b = omega arith in ap pos e
eq_show' (pos a) (negsuc b) h = let e : suc (a + b) ≡ 0 = omega arith in absurd (omega arith)
eq_show' (negsuc a) (pos b) h = absurd (omega arith)
eq_show' (negsuc a) (negsuc b) h = let e : a ≡ b = omega arith in ap negsuc e

pub eq_show : {a b : ℤ} → up a + down b ≡ up b + down a → a ≡ b
eq_show {a} {b} h = eq_show' a b h

-- A difference of two natural numbers, read.
sub_read : (a b : ℕ) → up (sub_ℕ a b) + b ≡ a + down (sub_ℕ a b)
sub_read a b = go (ltb a b) refl
  where
    go : (t : Bool) → ltb a b ≡ t → up (cond t (negsuc (b - suc a)) (pos (a - b))) + b ≡ a + down (cond t (negsuc (b - suc a)) (pos (a - b)))
    go true e = let h : a < b = ltb-true a b e in omega arith
    go false e = let h : b ≤ a = ltb-false a b e in omega arith

pub subℕ_read : (a b : ℕ) → up (sub_ℕ a b) + b ≡ a + down (sub_ℕ a b)
subℕ_read a b = sub_read a b

pub plus_read : (a b : ℤ) → up (a +ℤ b) + (down a + down b) ≡ (up a + up b) + down (a +ℤ b)
plus_read (pos a) (pos b) = omega arith
plus_read (pos a) (negsuc b) = omega (arith, sub_read a (suc b))
plus_read (negsuc a) (pos b) = omega (arith, sub_read b (suc a))
plus_read (negsuc a) (negsuc b) = omega arith

pub neg_read : (a : ℤ) → up (neg_ℤ a) + up a ≡ down (neg_ℤ a) + down a
neg_read (pos zero) = refl
neg_read (pos (suc n)) = omega arith
neg_read (negsuc n) = omega arith

pub minus_read : (a b : ℤ) → up (a -ℤ b) + (down a + up b) ≡ (up a + down b) + down (a -ℤ b)
minus_read a b = omega (arith, plus_read a (neg_ℤ b), neg_read b)

-- The size of a whole number: at most d exactly when it lies between −d and d.
pub abs_read : (a : ℤ) → nat_abs a ≡ up a + down a
abs_read (pos n) = omega arith
abs_read (negsuc n) = omega arith

pub abs_show : (a : ℤ) {d : ℕ} → up a ≤ d + down a → down a ≤ d + up a → nat_abs a ≤ d
abs_show (pos n) h k = omega arith
abs_show (negsuc n) h k = omega arith

-- One of the two parts is zero.
pub parts : (a : ℤ) → (up a ≡ 0) ⊎ (down a ≡ 0)
parts (pos n) = inr refl
parts (negsuc n) = inl refl

pub ruleset whole = (arith, le_read, le_show, lt_read, lt_show, eq_read, eq_show)

-- Whole numbers are ordered one way or the other.
pub le_or_lt : (a b : ℤ) → (a ≤ℤ b) ⊎ (b <ℤ a)
le_or_lt a b = ⊎_elim (λ h. inl (omega whole)) (λ h. inr (omega whole)) (nat_le_or_lt (up a + down b) (up b + down a))

-- The bridge at work.
example : (a b c d : ℤ) → a ≤ℤ b → c <ℤ d → (a +ℤ c) <ℤ (b +ℤ d)
example a b c d h k = omega (whole, plus_read a c, plus_read b d)
