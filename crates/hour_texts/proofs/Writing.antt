-- The text of a value put together in a line, and copied to the lent buffer.
use Prim.Native.Nat.{ℕ, suc, ◌+◌, ◌-◌, ◌/◌, ◌%◌, ◌≤◌, ◌<◌}
use mathlib.Core.Path.{◌≡◌}
use mathlib.Core.Bool.{true, false}
use mathlib.Core.List.{List, [], ◌∷◌}
use native.Mathlib.Omega.{arith}
use lib.ListN.{length, take}
use lib.IntN.{pos, negsuc}
use borrow.Author.Tests.{lt-ltb}
use Rattle.definitions.specs.Limits.{signed_half, text_most, hour_minutes}
use Rattle.definitions.specs.Tropical.{Trop}
use Rattle.definitions.specs.Offset.{trop_of}
use Rattle.definitions.specs.Programs.{decimal}
use Rattle.definitions.specs.Hours.{hyphen, colon, two_digits, has_text, no_text, clock_of, text_of, hours_refusal, WritesHours, text, unwritten, written}
use Rattle.definitions.proofs.Offset.{trop_zero, trop_show}
use Rattle.definitions.proofs.Put.{take_put}
use Rattle.definitions.proofs.Hours.{hours_none, hours_beyond, text_short}
use Rattle.printing.specs.Text.{Putting}
use Rattle.printing.proofs.Copy.{put_then}

-- ---- the text in a line

-- Hours, then minutes.
pub clock_put : (number : ℕ) {l : List ℕ} {at : ℕ} {mid : List ℕ} {next : ℕ} {after : List ℕ} {end : ℕ} → Putting l at (decimal (number / hour_minutes)) mid next
    → Putting mid next (colon ∷ two_digits (number % hour_minutes)) after end → at ≤ length l → Putting l at (clock_of number) after end
unfolding clock_of
clock_put number p q inside = put_then p q inside

module _ {l : List ℕ} (value : ℕ) {after : List ℕ} {end : ℕ} where
  -- Blank.
  pub blank_put : Putting l 0 (hyphen ∷ hyphen ∷ []) after end → value ≡ 0 → Putting l 0 (text_of (trop_of value)) after end
  unfolding text_of
  blank_put p e = rw (e, trop_zero) p

  -- Zero or above.
  pub plain_put : Putting l 0 (clock_of (value - signed_half)) after end → signed_half ≤ value → Putting l 0 (text_of (trop_of value)) after end
  unfolding text_of
  plain_put p h = rw (trop_show value (pos (value - signed_half)) (omega arith) (omega arith)) p

  -- Below zero.
  pub minus_put : {mid : List ℕ} {next : ℕ} → Putting l 0 (hyphen ∷ []) mid next → Putting mid next (clock_of (signed_half - value)) after end → (value ≡ 0 → ⊥) → value < signed_half
      → Putting l 0 (text_of (trop_of value)) after end
  unfolding text_of
  minus_put p q n h =
      let e : suc (signed_half - value - 1) ≡ signed_half - value = omega arith in
      rw (trop_show value (negsuc (signed_half - value - 1)) (omega arith) (omega arith), e) (put_then p q (omega arith))

-- ---- the buffer

-- A short buffer.
pub short_refused : (v : Trop) (before : List ℕ) → length before < text_most → WritesHours v before (unwritten no_text) before
unfolding hours_refusal
short_refused v before h = WritesHours.turned_away {k = 17} (rw (lt-ltb (length before) text_most h))

-- A value without a text.
pub beyond_refused : (v : Trop) (before : List ℕ) → has_text v ≡ false → WritesHours v before (unwritten no_text) before
beyond_refused v before e = WritesHours.turned_away {k = 17} (hours_beyond v (length before) e)

-- The first bytes of the line are the text.
pub line_text : (v : Trop) {l line : List ℕ} {size : ℕ} → Putting l 0 (text_of v) line size → take size line ≡ text_of v
line_text v {l} p =
    let e = p.next_is in
    rw (e, p.after_is) (take_put l 0 (text_of v) (omega arith))

-- They are at most 10.
pub line_short : (v : Trop) {l line : List ℕ} {size : ℕ} → Putting l 0 (text_of v) line size → has_text v ≡ true → size ≤ text_most
line_short v p e = omega (arith, p.next_is, text_short v e)

-- There is room for them.
pub line_room : (v : Trop) {l line : List ℕ} {size room : ℕ} → Putting l 0 (text_of v) line size → has_text v ≡ true → text_most ≤ room → 0 + length (take size line) ≤ room
line_room v p e h = rw (line_text v p) (omega (arith, text_short v e))

-- They stand in the buffer.
pub text_written : (v : Trop) {before after : List ℕ} {size next : ℕ} {l line : List ℕ} → Putting l 0 (text_of v) line size → Putting before 0 (take size line) after next
    → text_most ≤ length before → has_text v ≡ true → WritesHours v before (text next) after
text_written v {before} {next = next} p q h e =
    let t : Putting before 0 (text_of v) _ next = rw (line_text v p) at q in
    let n : next ≡ length (text_of v) = omega (arith, t.next_is) in
    rw (n, t.after_is) (written (hours_none v (length before) h e))
