-- The numbers of hours and minutes fit 64 bits, and are those of the cases.
use Prim.Native.Nat.{ℕ, ◌+◌, ◌≤◌, ◌<◌}
use mathlib.Core.Path.{◌≡◌, refl, ap}
use mathlib.Core.Bool.{true}
use mathlib.Core.List.{List}
use Rattle.std.specs.Prelude.{Result, Ok, Err}
use mathlib.Core.Logic.{⊎_elim}
use native.Mathlib.Omega.{arith}
use lib.ListN.{length}
use Rattle.definitions.specs.Limits.{text_limit, text_most, signed_half}
use Rattle.definitions.specs.Tropical.{Trop}
use Rattle.definitions.specs.Offset.{trop_of}
use Rattle.definitions.specs.Hours as Results
use Rattle.definitions.specs.Hours.{has_text, HoursWriting, ReadsHours, WritesHours, text_of}
use Rattle.definitions.proofs.Offset.{within_iff}
use Rattle.definitions.proofs.Hours.{read_is, text_within, text_short, hours_fits}
use Rattle.records.specs.declared.refusal.Refusal.{Refusal}
use Rattle.records.specs.Refusals.{outcome_by}
use Rattle.hour_texts.specs.Outcome.{reading_of, writing_of}
use Rattle.capi.specs.Numbers.{Small, written_number, low_half}
use Rattle.capi.specs.HoursNumbers.{writing_number}

-- ---- sizes

within_small : (k : ℕ) → has_text (trop_of k) ≡ true → k < low_half
within_small k t =
    ⊎_elim (λ (z : k ≡ 0). omega arith) (λ (b : (signed_half ≤ k + text_limit) × (k ≤ signed_half + text_limit)). omega arith) ((within_iff text_limit k (omega arith)).0 t)

pub small_value : {s : List ℕ} {r : Result ℕ Refusal} → ReadsHours s (reading_of r) → Small r
small_value h = record { small = λ {k} e. within_small k (text_within (read_is h (ap reading_of e))) }

written_short : (v : Trop) {before after : List ℕ} {r : HoursWriting} {size : ℕ} → WritesHours v before r after → r ≡ Results.text size → size ≤ text_most
written_short v (WritesHours.turned_away e) f = absurd (let z : ◌≡◌ {A = ℕ} 0 1 = cc in omega arith)
written_short v {before} {size = size} (Results.written e) f =
    let g : length (text_of v) ≡ size = cc in
    omega (arith, text_short v (hours_fits v (length before) e).1)

pub small_text : (v : Trop) {before after : List ℕ} {r : Result ℕ Refusal} → WritesHours v before (writing_of r) after → Small r
small_text v h = record { small = λ e. let s = written_short v h (ap writing_of e) in omega arith }

-- ---- the number of a text's size

pub text_number : (r : Result ℕ Refusal) → written_number (outcome_by (λ size. size) r) ≡ writing_number (writing_of r)
text_number (Ok size) = refl
text_number (Err k) = refl
