-- d times a span: spans are ordered as their d-folds are.
use Prim.Native.Nat.{ℕ, ◌≤◌}
use mathlib.Core.Path.{◌≡◌, refl, sym}
use native.Mathlib.Omega.{arith}
use lib.IntN.{ℤ, pos, ◌*ℤ◌}
use Rattle.definitions.specs.Problem.{Value, minus_infinity, whole, plus_infinity, ◌≼◌, lowest, between, highest}
use Rattle.definitions.proofs.Values.{≼_antisym, whole_below, infinite_not_below}
use Rattle.scaling.specs.Floor.{floor}
use Rattle.scaling.specs.Plans.{times_value}
use Rattle.scaling.proofs.Floor.{times_mono_whole, times_cancel_whole, floor_times}

-- A whole number is neither infinity.
minus_not_whole : {a : ℤ} → minus_infinity ≡ whole a → ⊥
minus_not_whole e = let z : ◌≡◌ {A = ℕ} 0 1 = cc in omega arith

plus_not_whole : {a : ℤ} → plus_infinity ≡ whole a → ⊥
plus_not_whole e = let z : ◌≡◌ {A = ℕ} 0 1 = cc in omega arith

-- A span whose d-fold is the whole number u.
pub record Share (d : ℕ) (u : ℤ) (v : Value) : Type 0 where
  pub span : ℤ
  pub is : u ≡ pos d *ℤ span
  pub value_is : v ≡ whole span

pub share : (d : ℕ) {u : ℤ} (v : Value) → times_value d v ≡ whole u → Share d u v
unfolding times_value
share d minus_infinity e = absurd (minus_not_whole e)
share d {u} (whole a) e = let i : u ≡ pos d *ℤ a = cc in record { span = a; is = i; value_is = refl }
share d plus_infinity e = absurd (plus_not_whole e)

-- A whole number is at most a span exactly when its d-fold is at most the span's.
pub times_above : (d : ℕ) {s : ℤ} {v : Value} → whole s ≼ v → whole (pos d *ℤ s) ≼ times_value d v
unfolding times_value
times_above d (between h) = between (times_mono_whole d h)
times_above d highest = highest

pub above_times : (d : ℕ) {s : ℤ} (v : Value) → 1 ≤ d → whole (pos d *ℤ s) ≼ times_value d v → whole s ≼ v
unfolding times_value
above_times d minus_infinity one h = absurd (minus_not_whole (sym (≼_antisym h lowest)))
above_times d (whole a) one h = between (times_cancel_whole d one (whole_below h))
above_times d plus_infinity one h = highest

-- The d-fold of a span is at most t where the span is at most the floor of t / d, and a span is at most t where its d-fold is at
-- most d · t.
pub times_within : (d : ℕ) {t : ℤ} {v : Value} → 1 ≤ d → v ≼ whole (floor d t) → times_value d v ≼ whole t
unfolding times_value
times_within d one lowest = lowest
times_within d one (between h) = between (floor_times d one h)

pub within_times : (d : ℕ) {t : ℤ} (v : Value) → 1 ≤ d → times_value d v ≼ whole (pos d *ℤ t) → v ≼ whole t
unfolding times_value
within_times d minus_infinity one h = lowest
within_times d (whole a) one h = between (times_cancel_whole d one (whole_below h))
within_times d plus_infinity one h = absurd (infinite_not_below h)

-- A span is plus infinity exactly when its d-fold is.
pub times_infinite : (d : ℕ) {v : Value} → plus_infinity ≼ v → plus_infinity ≼ times_value d v
unfolding times_value
times_infinite d highest = highest

pub infinite_times : (d : ℕ) (v : Value) → plus_infinity ≼ times_value d v → plus_infinity ≼ v
unfolding times_value
infinite_times d minus_infinity h = h
infinite_times d (whole a) h = absurd (infinite_not_below h)
infinite_times d plus_infinity h = h
