-- The first open minute as one number: the low byte is the refusal, 0 where there is none.
use Rattle.std.specs.Prelude.{ℕ, suc, ◌+◌, ◌-◌, ◌*◌, ◌<◌, ◌≡◌, List, ℤ, pos, negsuc, Option, Some, Result, Ok}
use Rattle.definitions.specs.Limits.{signed_half}
use Rattle.definitions.specs.Week as Weeks
use Rattle.definitions.specs.Week.{Admits}
use Rattle.opening_hours.specs.Lookup.{minute_of}
use Rattle.records.specs.declared.refusal.Refusal.{Refusal}
use Rattle.capi.specs.Numbers.{low_half}

-- The offset number of a minute: 2³¹ more.
unfoldable pub offset_of : ℤ → ℕ
offset_of (pos k) = signed_half + k
offset_of (negsuc k) = signed_half - suc k

-- The answer: 2³² × the minute's offset number, 0 for never, else the refusal.
abbrev pub admission_number : Weeks.Admission → ℕ
admission_number (Weeks.open_at a) = low_half * offset_of a
admission_number Weeks.never = 0
admission_number (Weeks.refused k) = k

-- The answer for a week list and a minute, as a number.
pub record AdmitsAs (week : List ℕ) (minute number : ℕ) : Type 0 where
  pub admission : Weeks.Admission
  pub admits : Admits week (minute_of minute) admission
  pub number_is : number ≡ admission_number admission

-- The minute's offset number is small, so that the number fits 64 bits.
pub record SmallMinute (r : Result (Option ℕ) Refusal) : Type 0 where
  pub small : {k : ℕ} → r ≡ Ok (Some k) → k < low_half
