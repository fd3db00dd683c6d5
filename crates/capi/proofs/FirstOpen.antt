-- The numbers of the first open minute: they fit 64 bits, and each list and minute has one.
use Prim.Native.Nat.{ℕ, ◌≤◌, ◌<◌}
use mathlib.Core.Path.{◌≡◌, ap, sym, ◌∙◌}
use mathlib.Core.Logic.{⊎_elim}
use mathlib.Core.List.{List}
use Rattle.std.specs.Prelude.{Option, Result}
use native.Mathlib.Omega.{arith}
use lib.IntN.{ℤ}
use Rattle.base.proofs.Numbers.{nat_le_or_lt}
use Rattle.definitions.specs.Limits.{signed_half}
use Rattle.definitions.specs.Week.{Admits}
use Rattle.definitions.proofs.Whole.{abs_read}
use Rattle.records.specs.declared.refusal.Refusal.{Refusal}
use Rattle.opening_hours.specs.Lookup.{minute_of, admission_of}
use Rattle.opening_hours.proofs.Minutes.{minute_read, minute_before, minute_from}
use Rattle.opening_hours.proofs.OpeningHours.{answer_near, admits_unique}
use Rattle.capi.specs.Opening.{offset_of, admission_number, AdmitsAs, SmallMinute}

-- A minute's offset number is below 2³².
pub small_minute : {week : List ℕ} {z : ℤ} {r : Result (Option ℕ) Refusal} → Admits week z (admission_of r) → SmallMinute r
small_minute a = record {
  small = λ {k} e. omega (arith, answer_near a (ap admission_of e), minute_read k, abs_read (minute_of k));
}

-- The offset number of what an offset number stands for is that number.
pub offset_minute : (k : ℕ) → offset_of (minute_of k) ≡ k
unfolding offset_of
offset_minute k = ⊎_elim
    (λ (h : signed_half ≤ k). rw (minute_from k h) (omega arith))
    (λ (h : k < signed_half). rw (minute_before k h) (omega arith))
    (nat_le_or_lt signed_half k)

-- Each list and minute has one number.
pub admits_as_unique : {week : List ℕ} {minute m n : ℕ} → AdmitsAs week minute m → AdmitsAs week minute n → m ≡ n
admits_as_unique a b = a.number_is ∙ ap admission_number (admits_unique a.admits b.admits) ∙ sym b.number_is
