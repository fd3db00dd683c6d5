-- What looking up a minute answers, in the words of the definitions.
use Rattle.std.specs.Prelude.{ℕ, ◌+◌, ◌%◌, ◌≤◌, ◌<◌, Bool, true, false, List, ℤ, Option, Some, None, Result, Ok, Err}
use Rattle.std.proofs.Math.IntN.{sub_ℕ}
use Rattle.definitions.specs.Limits.{signed_half, week_minutes}
use Rattle.definitions.specs.Week as Weeks
use Rattle.definitions.specs.Week.{windows, InWindow, BadWeek}
use Rattle.records.specs.declared.refusal.Refusal.{Refusal}
use Rattle.records.specs.Refusals.{number_of}

-- The minute that an offset number stands for. Each number has one; those too far away, 0 among them, are refused by 19.
unfoldable pub minute_of : ℕ → ℤ
minute_of k = sub_ℕ k signed_half

-- Document 02's answer for each case: the minute, never, or the refusal's number.
abbrev pub admission_of : Result (Option ℕ) Refusal → Weeks.Admission
admission_of (Ok (Some k)) = Weeks.open_at (minute_of k)
admission_of (Ok None) = Weeks.never
admission_of (Err r) = Weeks.refused (number_of r)

-- The test of a week list: true exactly where refusal 19 has nothing against it.
pub data ListJudged (week : List ℕ) : Bool → Type 0 where
  fits : (BadWeek week → ⊥) → ListJudged week true
  bad : BadWeek week → ListJudged week false

-- A good list with a window, and a minute of the week.
pub record Asked (week : List ℕ) (minute : ℕ) : Type 0 where
  pub good : BadWeek week → ⊥
  pub some_window : 0 < windows week
  pub minute_small : minute < week_minutes

-- The first open minute at or after a minute of this week, counted from this week's Monday 0:00, maybe into the next.
pub record FirstFrom (week : List ℕ) (minute k : ℕ) : Type 0 where
  pub at_or_after : minute ≤ k
  pub is_open : InWindow week (k % week_minutes)
  pub shut_before : (j : ℕ) → minute ≤ j → j < k → InWindow week (j % week_minutes) → ⊥
  pub near : k < minute + week_minutes
