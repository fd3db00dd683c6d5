-- Facts that pin the numbers and words of request 2.8: where a week starts, the closing minute, touching windows, the limits.
use Prim.Native.Nat.{ℕ, zero, suc, ◌*◌, ◌≤◌, ◌<◌}
use mathlib.Core.Path.{◌≡◌, refl, subst}
use mathlib.Core.Logic.{⊎_elim}
use mathlib.Core.List.{List, [], ◌∷◌}
use native.Mathlib.Omega.{arith}
use lib.ListN.{length, replicate}
use lib.IntN.{ℤ, pos, negsuc}
use lib.Signed.{◌≤ℤ◌, ◌<ℤ◌}
use Rattle.definitions.specs.Limits.{most_windows}
use Rattle.definitions.specs.Week.{windows, opening, closing, InWindow, minute_of_week, Open, FirstOpen, week_refusal, BadWeek, odd, too_many_windows, closing_not_after_opening, opening_outside, closing_outside, starts_before_last_closes, TurnedAway, bad_week, minute_beyond}
use Rattle.definitions.proofs.Whole.{whole}

-- A week starts on Monday 0:00, and the minute before that is the last of the week before.
pub monday : minute_of_week (pos 0) ≡ 0
unfolding minute_of_week
monday = refl

pub sunday_night : minute_of_week (negsuc 0) ≡ 10079
unfolding minute_of_week
sunday_night = refl

pub next_monday : minute_of_week (pos 10080) ≡ 0
unfolding minute_of_week
next_monday = refl

-- A ward that is open on Mondays from 8:00 to 17:00.
pub mondays : List ℕ
mondays = 480 ∷ 1020 ∷ []

one_window : {k : ℕ} → InWindow mondays k → (480 ≤ k) × (k < 1020)
unfolding mondays
one_window {k} w =
    let e : w.window ≡ 0 = omega (arith, w.listed) in
    (subst (λ (i : ℕ). opening mondays i ≤ k) e w.opened, subst (λ (i : ℕ). k < closing mondays i) e w.not_closed)

in_window : {k : ℕ} → 480 ≤ k → k < 1020 → InWindow mondays k
unfolding mondays
in_window h g = record { window = 0; listed = omega arith; opened = h; not_closed = g }

-- It is open at its opening minute, and shut at its closing minute.
pub open_at_opening : Open mondays (pos 480)
unfolding minute_of_week
open_at_opening = in_window (omega arith) (omega arith)

pub shut_at_closing : Open mondays (pos 1020) → ⊥
unfolding minute_of_week
shut_at_closing w = let h = one_window w in omega arith

-- From its closing minute on, the first open minute is 8:00 of the next Monday.
pub next_opening : FirstOpen mondays (pos 1020) (pos 10560)
unfolding minute_of_week
next_opening = record { at_or_after = omega whole; is_open = in_window (omega arith) (omega arith); shut_before = shut }
  where
    shut : (b : ℤ) → pos 1020 ≤ℤ b → b <ℤ pos 10560 → Open mondays b → ⊥
    shut (pos k) h g w = let i = one_window w in omega (whole, h, g)
    shut (negsuc k) h g w = omega (whole, h)

-- Such lists are taken: one window, none, and windows that touch; one that starts before the last closes is not.
good_list : {week : List ℕ} → length week ≡ 2 * windows week → windows week ≤ most_windows
    → ((i : ℕ) → i < windows week → (opening week i < closing week i) × (closing week i ≤ 10080))
    → ((i : ℕ) → suc i < windows week → closing week i ≤ opening week (suc i)) → BadWeek week → ⊥
good_list e few each after (odd h) = omega arith
good_list e few each after (too_many_windows h) = omega arith
good_list e few each after (closing_not_after_opening i h k) = let w = each i h in omega arith
good_list e few each after (opening_outside i h k) = let w = each i h in omega arith
good_list e few each after (closing_outside i h k) = let w = each i h in ⊎_elim (λ l. omega arith) (λ l. omega arith) k
good_list e few each after (starts_before_last_closes i h k) = let w = after i h in omega arith

pub mondays_taken : BadWeek mondays → ⊥
unfolding mondays
mondays_taken = good_list refl (omega arith) (λ i h. let e : 0 ≡ i = omega arith in subst (λ (i : ℕ). (opening mondays i < closing mondays i) × (closing mondays i ≤ 10080)) e (omega arith, omega arith)) (λ i h. absurd (omega arith))

pub empty_taken : BadWeek [] → ⊥
empty_taken = good_list refl (omega arith) (λ i h. absurd (omega arith)) (λ i h. absurd (omega arith))

-- So the ward is answered.
pub mondays_answered : (TurnedAway mondays (pos 1020) → ⊥)
mondays_answered (bad_week b) = mondays_taken b
mondays_answered (minute_beyond h) = omega arith

pub overlapping_refused : BadWeek (0 ∷ 5 ∷ 4 ∷ 10 ∷ [])
overlapping_refused = starts_before_last_closes 0 (omega arith) (omega arith)

pub touching : List ℕ
touching = 0 ∷ 5 ∷ 5 ∷ 10 ∷ []

pub touching_taken : BadWeek touching → ⊥
unfolding touching
touching_taken = good_list refl (omega arith) each (λ i h. let e : 0 ≡ i = omega arith in subst (λ (i : ℕ). closing touching i ≤ opening touching (suc i)) e (omega arith))
  where
    each : (i : ℕ) → i < 2 → (opening touching i < closing touching i) × (closing touching i ≤ 10080)
    each zero h = (omega arith, omega arith)
    each (suc zero) h = (omega arith, omega arith)
    each (suc (suc i)) h = absurd (omega arith)

-- The limits: 14 windows, minutes to ±6,000,000, and the number 19.
pub fourteen_windows : most_windows < windows (replicate 28 0) → ⊥
fourteen_windows h = omega arith

pub fifteen_windows : BadWeek (replicate 30 0)
fifteen_windows = too_many_windows (omega arith)

pub last_minute : TurnedAway [] (pos 6000000) → ⊥
last_minute (bad_week b) = empty_taken b
last_minute (minute_beyond h) = omega arith

pub first_minute : TurnedAway [] (negsuc 5999999) → ⊥
first_minute (bad_week b) = empty_taken b
first_minute (minute_beyond h) = omega arith

pub beyond : TurnedAway [] (pos 6000001)
beyond = minute_beyond (omega arith)

pub before : TurnedAway [] (negsuc 6000000)
before = minute_beyond (omega arith)

pub refused_by_19 : week_refusal ≡ 19
refused_by_19 = refl
