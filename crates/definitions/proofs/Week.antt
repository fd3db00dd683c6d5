-- Opening hours: minutes ahead of a minute, the same in every week, and that there is one first open minute.
use Prim.Native.Nat.{ℕ, suc, ◌+◌, ◌-◌, ◌%◌, ◌≤◌, ◌<◌}
use mathlib.Core.Path.{◌≡◌, refl, ap, sym, subst, ◌∙◌}
use mathlib.Core.Bool.{Bool, true, false, cond}
use mathlib.Core.Logic.{⊎_elim, ◌↔◌}
use mathlib.Core.List.{List}
use native.Mathlib.Omega.{arith}
use lib.Dec.{ltb}
use lib.IntN.{ℤ, pos, negsuc, ◌+ℤ◌}
use lib.Signed.{◌≤ℤ◌, ◌<ℤ◌}
use borrow.Author.Tests.{ltb-true, ltb-false}
use Rattle.definitions.specs.Limits.{week_minutes}
use Rattle.definitions.specs.Week.{InWindow, minute_of_week, Open, FirstOpen}
use Rattle.definitions.proofs.Whole.{up, down, whole, plus_read, le_or_lt}

-- ---- the minute of the week

pub minute_below : (z : ℤ) → minute_of_week z < week_minutes
unfolding minute_of_week
minute_below (pos k) = omega arith
minute_below (negsuc k) = omega arith

-- It goes on minute by minute, from Sunday's last to Monday's first.
pub minute_ahead : (z : ℤ) (d : ℕ) → minute_of_week (z +ℤ pos d) ≡ (minute_of_week z + d) % week_minutes
unfolding minute_of_week
minute_ahead (pos k) d = omega arith
minute_ahead (negsuc k) d = go (ltb d (suc k)) refl
  where
    go : (t : Bool) → ltb d (suc k) ≡ t → minute_of_week (cond t (negsuc (suc k - suc d)) (pos (d - suc k))) ≡ (week_minutes - suc (k % week_minutes) + d) % week_minutes
    go true e = let h : d < suc k = ltb-true d (suc k) e in omega arith
    go false e = let h : suc k ≤ d = ltb-false d (suc k) e in omega arith

-- A number below 10,080 for each minute that is 0 on a Monday 0:00 and goes on minute by minute is the minute of the week.
pub minute_only :
    (f : ℤ → ℕ) → ((z : ℤ) → f z < week_minutes) → f (pos 0) ≡ 0 → ((z : ℤ) (d : ℕ) → f (z +ℤ pos d) ≡ (f z + d) % week_minutes)
    → (z : ℤ) → f z ≡ minute_of_week z
unfolding minute_of_week
minute_only f below monday on (pos k) =
    let e : pos 0 +ℤ pos k ≡ pos k = omega (whole, plus_read (pos 0) (pos k)) in
    let h : f (pos k) ≡ (f (pos 0) + k) % week_minutes = sym (ap f e) ∙ on (pos 0) k in
    omega arith
minute_only f below monday on (negsuc k) =
    let e : negsuc k +ℤ pos (suc k) ≡ pos 0 = omega (whole, plus_read (negsuc k) (pos (suc k))) in
    let h : f (pos 0) ≡ (f (negsuc k) + suc k) % week_minutes = sym (ap f e) ∙ on (negsuc k) (suc k) in
    omega (arith, below (negsuc k))

-- A week later is the same minute of the week.
pub minute_next_week : (z : ℤ) → minute_of_week (z +ℤ pos week_minutes) ≡ minute_of_week z
minute_next_week z = omega (arith, minute_ahead z week_minutes, minute_below z)

pub every_week : (week : List ℕ) (z : ℤ) → Open week z ↔ Open week (z +ℤ pos week_minutes)
every_week week z = (
  λ h. subst (InWindow week) (sym (minute_next_week z)) h,
  λ h. subst (InWindow week) (minute_next_week z) h,
)

-- ---- minutes at or after a minute

-- A minute at or after z is z and some minutes more.
pub record Ahead (z b : ℤ) : Type 0 where
  pub by : ℕ
  pub is : b ≡ z +ℤ pos by

pub ahead : {z b : ℤ} → z ≤ℤ b → Ahead z b
ahead {z} {b} h = record { by = (up b + down z) - (up z + down b); is = omega (whole, plus_read z (pos ((up b + down z) - (up z + down b)))) }

-- ---- the first open minute is one

pub first_open_unique : {week : List ℕ} {z a b : ℤ} → FirstOpen week z a → FirstOpen week z b → a ≡ b
first_open_unique {a = a} {b} f g = ⊎_elim
    (λ (h : a ≤ℤ b). ⊎_elim
    (λ (k : b ≤ℤ a). omega whole)
    (λ (k : a <ℤ b). absurd (g.shut_before a f.at_or_after k f.is_open))
    (le_or_lt b a))
    (λ (h : b <ℤ a). absurd (f.shut_before b g.at_or_after h g.is_open))
    (le_or_lt a b)
