-- Opening hours of a ward: when it is open, the first open minute at or after a minute, and what is turned away. Document 02,
-- 2.8. A week list holds the opening and the closing minute of each window in turn, counted from Monday 0:00.
use Rattle.std.specs.Prelude.{ℕ, suc, ◌+◌, ◌-◌, ◌*◌, ◌/◌, ◌%◌, ◌≤◌, ◌<◌, ◌≡◌, ◌⊎◌, ◌↔◌, List, [], length, get_or, ℤ, pos, negsuc, nat_abs, ◌+ℤ◌, ◌≤ℤ◌, ◌<ℤ◌}
use Rattle.definitions.specs.Limits.{week_minutes, most_windows, minute_limit}

-- ---- when a ward is open

-- How many windows a week list has, and the opening and the closing minute of window i.
abbrev pub windows : List ℕ → ℕ
windows week = length week / 2

abbrev pub opening : List ℕ → ℕ → ℕ
opening week i = get_or week (2 * i) 0

abbrev pub closing : List ℕ → ℕ → ℕ
closing week i = get_or week (2 * i + 1) 0

-- Minute k of a week lies in a window: this runs from its opening minute to the one before its closing minute.
pub record InWindow (week : List ℕ) (k : ℕ) : Type 0 where
  pub window : ℕ
  pub listed : window < windows week
  pub opened : opening week window ≤ k
  pub not_closed : k < closing week window

-- The minute of its week at which a whole minute stands, counted from a Monday 0:00, which is 0: −1 is the last minute of the
-- week before.
unfoldable pub minute_of_week : ℤ → ℕ
minute_of_week (pos k) = k % week_minutes
minute_of_week (negsuc k) = week_minutes - suc (k % week_minutes)

-- A ward is open in its windows and else shut, in every week before or after.
abbrev pub Open : List ℕ → ℤ → Type 0
Open week z = InWindow week (minute_of_week z)

-- The first open minute at or after z.
pub record FirstOpen (week : List ℕ) (z a : ℤ) : Type 0 where
  pub at_or_after : z ≤ℤ a
  pub is_open : Open week a
  pub shut_before : (b : ℤ) → z ≤ℤ b → b <ℤ a → Open week b → ⊥

-- ---- what is turned away

-- The number of the refusal.
abbrev pub week_refusal : ℕ
week_refusal = 19

-- What it says of a week list. (A list of numbers can be odd, a list of windows cannot: the last opening then has no closing.)
pub data BadWeek (week : List ℕ) : Type 0 where
  odd : length week ≡ suc (2 * windows week) → BadWeek week
  too_many_windows : most_windows < windows week → BadWeek week
  closing_not_after_opening : (i : ℕ) → i < windows week → closing week i ≤ opening week i → BadWeek week
  opening_outside : (i : ℕ) → i < windows week → week_minutes ≤ opening week i → BadWeek week
  closing_outside : (i : ℕ) → i < windows week → (closing week i < 1) ⊎ (week_minutes < closing week i) → BadWeek week
  starts_before_last_closes : (i : ℕ) → suc i < windows week → opening week (suc i) < closing week i → BadWeek week

-- Refusal 19 applies: to the list, or to a minute to be looked up beyond ±6,000,000.
pub data TurnedAway (week : List ℕ) (z : ℤ) : Type 0 where
  bad_week : BadWeek week → TurnedAway week z
  minute_beyond : minute_limit < nat_abs z → TurnedAway week z

-- ---- what is answered

-- The first open minute, never, or the refusal.
pub data Admission : Type 0 where
  open_at : ℤ → Admission
  never : Admission
  refused : ℕ → Admission

-- The answer for a week list and a minute: never for an empty list, after its minute was judged.
pub data Admits (week : List ℕ) (z : ℤ) : Admission → Type 0 where
  turned_away : TurnedAway week z → Admits week z (refused week_refusal)
  never_open : (TurnedAway week z → ⊥) → week ≡ [] → Admits week z never
  opens : {a : ℤ} → (TurnedAway week z → ⊥) → FirstOpen week z a → Admits week z (open_at a)

-- ---- what is promised

-- The answer is a minute.
pub record Minute (r : Admission) : Type 0 where
  pub minute : ℤ
  pub is : r ≡ open_at minute

-- Of each answer: a minute is at or after z, open and less than 10,080 away, and nothing between is open; a list that is taken and
-- has any window gives one; never and the refusal come exactly where they are due.
pub record Promised (week : List ℕ) (z : ℤ) (r : Admission) : Type 0 where
  pub is_open : (a : ℤ) → r ≡ open_at a → Open week a
  pub at_or_after : (a : ℤ) → r ≡ open_at a → z ≤ℤ a
  pub nothing_between : (a b : ℤ) → r ≡ open_at a → z ≤ℤ b → b <ℤ a → Open week b → ⊥
  pub less_than_a_week : (a : ℤ) → r ≡ open_at a → a <ℤ (z +ℤ pos week_minutes)
  pub with_any_window : (TurnedAway week z → ⊥) → 0 < windows week → Minute r
  pub never_exactly : (r ≡ never) ↔ ((TurnedAway week z → ⊥) × (week ≡ []))
  pub refused_exactly : (r ≡ refused week_refusal) ↔ TurnedAway week z

-- There is exactly one answer.
pub record OneAdmission (week : List ℕ) (z : ℤ) : Type 0 where
  pub answer : Admission
  pub admits : Admits week z answer
  pub no_other : (r : Admission) → Admits week z r → r ≡ answer

-- Request 2.8, for every list and every whole minute; a ward that is open at z is open a week later and a week before.
pub record OpeningHours : Type 0 where
  pub one_admission : (week : List ℕ) (z : ℤ) → OneAdmission week z
  pub promised : (week : List ℕ) (z : ℤ) (r : Admission) → Admits week z r → Promised week z r
  pub every_week : (week : List ℕ) (z : ℤ) → Open week z ↔ Open week (z +ℤ pos week_minutes)
