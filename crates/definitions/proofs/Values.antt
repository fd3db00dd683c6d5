-- Laws of the values: their order, and the difference of two tropical numbers.
use Prim.Native.Nat.{ℕ}
use mathlib.Core.Path.{◌≡◌, refl, ap, sym}
use mathlib.Core.Logic.{◌⊎◌, inl, inr, ⊎_elim}
use lib.IntN.{ℤ, pos, ◌+ℤ◌, ◌-ℤ◌}
use lib.Signed.{◌≤ℤ◌, ◌<ℤ◌, ≤ℤ_refl}
use Rattle.definitions.specs.Tropical.{Trop, bot, fin, plus, ◌⊑◌, blank_least, whole_least}
use Rattle.definitions.specs.Problem as Problems
use Rattle.definitions.specs.Problem.{Value, minus_infinity, plus_infinity, ◌≼◌, lowest, between, highest, minus}
use Rattle.definitions.proofs.Whole.{whole, plus_read, minus_read, le_or_lt}
use Rattle.definitions.proofs.Tropical.{fin_below, below_bot, bot_not_fin}

-- The order is reflexive,
pub ≼_refl : (v : Value) → v ≼ v
≼_refl minus_infinity = lowest
≼_refl (Problems.whole a) = between (≤ℤ_refl a)
≼_refl plus_infinity = highest

-- transitive,
pub ≼_trans : {u v w : Value} → u ≼ v → v ≼ w → u ≼ w
≼_trans lowest k = lowest
≼_trans (between {a = a} h) (between {b = c} k) = let r : a ≤ℤ c = omega whole in between r
≼_trans (between h) highest = highest
≼_trans highest highest = highest

-- and antisymmetric.
pub ≼_antisym : {u v : Value} → u ≼ v → v ≼ u → u ≡ v
≼_antisym lowest lowest = refl
≼_antisym (between {a = a} {b = b} h) (between k) = let e : a ≡ b = omega whole in ap Problems.whole e
≼_antisym highest highest = refl

-- Whole numbers are ordered as they are.
pub whole_below : {a b : ℤ} → Problems.whole a ≼ Problems.whole b → a ≤ℤ b
whole_below (between h) = h

-- Plus infinity is at most no whole number.
pub infinite_not_below : {t : ℤ} → plus_infinity ≼ Problems.whole t → ⊥
infinite_not_below {t} h =
    let e : plus_infinity ≡ Problems.whole t = ≼_antisym h highest' in
    let z : ◌≡◌ {A = ℕ} 0 1 = cc in
    omega whole
  where
    highest' : Problems.whole t ≼ plus_infinity
    highest' = highest

-- A value is at least s, or at most s − 1.
pub least_or_below : (s : ℤ) (v : Value) → (Problems.whole s ≼ v) ⊎ (v ≼ Problems.whole (s -ℤ pos 1))
least_or_below s minus_infinity = inr lowest
least_or_below s (Problems.whole a) = ⊎_elim
    (λ (h : s ≤ℤ a). inl (between h))
    (λ (h : a <ℤ s). let r : a ≤ℤ (s -ℤ pos 1) = omega (whole, minus_read s (pos 1)) in inr (between r))
    (le_or_lt s a)
least_or_below s plus_infinity = inl highest

-- Not both.
pub not_least_and_below : (s : ℤ) {v : Value} → Problems.whole s ≼ v → v ≼ Problems.whole (s -ℤ pos 1) → ⊥
not_least_and_below s h k = let r : s ≤ℤ (s -ℤ pos 1) = whole_below (≼_trans h k) in omega (whole, minus_read s (pos 1))

-- A whole number that a value is at most.
pub record Bounded (v : Value) : Type 0 where
  pub bound : ℤ
  pub below : v ≼ Problems.whole bound

-- Where a difference is at most t, the first number is at most the second raised by t.
pub minus_raised : (t : ℤ) (x y : Trop) → minus x y ≼ Problems.whole t → x ⊑ plus y (fin t)
unfolding minus plus
minus_raised t bot y h = blank_least
minus_raised t (fin a) bot h = absurd (infinite_not_below h)
minus_raised t (fin a) (fin b) h =
    let k : (a -ℤ b) ≤ℤ t = whole_below h in
    let r : a ≤ℤ (b +ℤ t) = omega (whole, minus_read a b, plus_read b t) in
    whole_least r

-- And the converse.
pub raised_minus : (t : ℤ) (x y : Trop) → x ⊑ plus y (fin t) → minus x y ≼ Problems.whole t
unfolding minus plus
raised_minus t bot y h = lowest
raised_minus t (fin a) bot h = absurd (bot_not_fin (sym (below_bot h)))
raised_minus t (fin a) (fin b) h =
    let k : a ≤ℤ (b +ℤ t) = fin_below h in
    let r : (a -ℤ b) ≤ℤ t = omega (whole, minus_read a b, plus_read b t) in
    between r
