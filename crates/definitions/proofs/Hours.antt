-- Texts of spans and stamps: each value has one, no two the same, and none has more than 10 bytes.
use Prim.Native.Nat.{ℕ, zero, suc, ◌+◌, ◌-◌, ◌/◌, ◌%◌, ◌≤◌, ◌<◌}
use mathlib.Core.Path.{◌≡◌, refl, ap, sym, ◌∙◌}
use mathlib.Core.Bool.{Bool, true, false, not, cond, ◌||◌}
use mathlib.Core.Logic.{⊎_elim}
use mathlib.Core.List.{List, [], ◌∷◌, map}
use native.Mathlib.Omega.{arith}
use lib.Dec.{ltb}
use lib.ListN.{length, get_or, take, drop, length-append, get_or-append, get_or-eq_default}
use lib.Seq.{take_at, drop_at}
use lib.IntN.{pos, negsuc}
use borrow.Author.Tests.{le-leb, leb-true, le-ltb, ltb-false}
use Rattle.base.proofs.Numbers.{nat_le_or_lt}
use Rattle.definitions.specs.Limits.{text_limit, text_most, hour_minutes}
use Rattle.definitions.specs.Tropical.{Trop, bot, fin}
use Rattle.definitions.specs.Bytes.{Bytes, put, all, blank_or_within}
use Rattle.definitions.specs.Programs.{decimal, digits}
use Rattle.definitions.specs.Hours.{Clock, HoursText, blank, plain, minus, has_text, clock_of, text_of, two_digits, hyphen, colon, no_text, HoursReading, value, refused, ReadsHours, read, hours_refusal, HoursWriting, text, unwritten, WritesHours, written, HoursReader, HoursWriter, ReaderReads, WriterWrites, OneText, HoursAndMinutes}
use Rattle.definitions.proofs.Bytes.{bytes_append, bytes_tested}
use Rattle.definitions.proofs.Programs.{decimal_few}
use Rattle.definitions.proofs.Put.{take_put}
use Rattle.definitions.proofs.Decimals.{decimal_injective, decimal_some, decimal_digits}

-- ---- minutes without a sign

-- So many minutes have the text `clock_of`, and no other.
pub clock_of_lem : (k : ℕ) → Clock k (clock_of k)
unfolding clock_of
clock_of_lem k = record { hours = k / hour_minutes; minutes = k % hour_minutes; below_hour = omega arith; number_is = omega arith; text_is = refl }

pub clock_is : {k : ℕ} {s : List ℕ} → Clock k s → s ≡ clock_of k
unfolding clock_of
clock_is {k} c =
    let h : k / hour_minutes ≡ c.hours = omega (arith, c.number_is, c.below_hour) in
    let m : k % hour_minutes ≡ c.minutes = omega (arith, c.number_is, c.below_hour) in
    rw (h, m) c.text_is

-- Three bytes behind the hours.
pub clock_length : {k : ℕ} {s : List ℕ} (c : Clock k s) → length s ≡ length (decimal c.hours) + 3
clock_length c = rw (c.text_is, length-append)

-- Where the last three bytes start, the hours end.
module _ {k : ℕ} {s : List ℕ} (c : Clock k s) (at : ℕ) (end : at + 3 ≡ length s) where
  here : length (decimal c.hours) ≡ at
  here = omega (arith, clock_length c)

  pub hours_part : take at s ≡ decimal c.hours
  hours_part = rw c.text_is (take_at (decimal c.hours) (colon ∷ two_digits c.minutes) at here)

  pub minutes_part : drop at s ≡ colon ∷ two_digits c.minutes
  minutes_part = rw c.text_is (drop_at (decimal c.hours) (colon ∷ two_digits c.minutes) at here)

-- Two digits tell their number.
digits_tell : (a b : ℕ) → colon ∷ two_digits a ≡ colon ∷ two_digits b → a ≡ b
digits_tell a b e =
    let tens = ap (λ (l : List ℕ). get_or l 1 0) e in
    let ones = ap (λ (l : List ℕ). get_or l 2 0) e in
    omega arith

-- A text tells its minutes.
pub clock_tells : {k j : ℕ} {s : List ℕ} → Clock k s → Clock j s → k ≡ j
clock_tells {k} {j} {s} c d =
    let at : length s - 3 + 3 ≡ length s = omega (arith, clock_length c) in
    let hours : c.hours ≡ d.hours = decimal_injective c.hours d.hours (sym (hours_part c (length s - 3) at) ∙ hours_part d (length s - 3) at) in
    let minutes : c.minutes ≡ d.minutes = digits_tell c.minutes d.minutes (sym (minutes_part c (length s - 3) at) ∙ minutes_part d (length s - 3) at) in
    omega (arith, c.number_is, d.number_is)

-- It begins with a digit, so with no hyphen.
pub clock_first : {k : ℕ} {s : List ℕ} → Clock k s → (48 ≤ get_or s 0 0) × (get_or s 0 0 < 58)
clock_first c =
    let some = decimal_some c.hours in
    rw (c.text_is, get_or-append (decimal c.hours) (colon ∷ two_digits c.minutes) 0 0 some) ((decimal_digits c.hours).digit 0 some)

-- Up to 6,000,000 minutes have at most 9 bytes.
clock_short : (k : ℕ) → k ≤ text_limit → length (clock_of k) ≤ 9
unfolding clock_of
clock_short k h = rw length-append (omega (arith, decimal_few 5 (k / hour_minutes) (omega arith)))

-- ---- values

-- A value with a text is within the limit, and the text is `text_of`.
pub text_within : {v : Trop} {s : List ℕ} → HoursText v s → has_text v ≡ true
unfolding blank_or_within
text_within blank = refl
text_within (plain {k = k} h c) = le-leb k text_limit h
text_within (minus {k = k} h c) = le-leb (suc k) text_limit h

pub text_is : {v : Trop} {s : List ℕ} → HoursText v s → s ≡ text_of v
unfolding text_of
text_is blank = refl
text_is (plain h c) = clock_is c
text_is (minus h c) = ap (λ (l : List ℕ). hyphen ∷ l) (clock_is c)

-- A value within the limit has one.
pub text_of_is : (v : Trop) → has_text v ≡ true → HoursText v (text_of v)
unfolding blank_or_within text_of
text_of_is bot h = blank
text_of_is (fin (pos k)) h = plain (leb-true k text_limit h) (clock_of_lem k)
text_of_is (fin (negsuc k)) h = minus (leb-true (suc k) text_limit h) (clock_of_lem (suc k))

-- Just one.
pub one_text : (v : Trop) → has_text v ≡ true → OneText v
one_text v h = record { text_of_is = text_of_is v h; no_other = text_is }

-- No text has more than 10 bytes.
pub text_short : (v : Trop) → has_text v ≡ true → length (text_of v) ≤ text_most
unfolding blank_or_within text_of
text_short bot h = omega arith
text_short (fin (pos k)) h = omega (arith, clock_short k (leb-true k text_limit h))
text_short (fin (negsuc k)) h = omega (arith, clock_short (suc k) (leb-true (suc k) text_limit h))

-- A text tells its value.
pub text_tells : {v w : Trop} {s : List ℕ} → HoursText v s → HoursText w s → v ≡ w
text_tells blank blank = refl
text_tells blank (plain h c) = absurd (omega (arith, clock_first c))
text_tells blank (minus h c) = absurd (omega (arith, clock_first c))
text_tells (plain h c) blank = absurd (omega (arith, clock_first c))
text_tells (plain h c) (plain g d) = ap (λ (k : ℕ). fin (pos k)) (clock_tells c d)
text_tells (plain h c) (minus g d) = absurd (omega (arith, clock_first c))
text_tells (minus h c) blank = absurd (omega (arith, clock_first c))
text_tells (minus h c) (plain g d) = absurd (omega (arith, clock_first d))
text_tells (minus {k = a} h c) (minus {k = b} g d) = let e : suc a ≡ suc b = clock_tells c d in let f : a ≡ b = omega arith in ap (λ (k : ℕ). fin (negsuc k)) f

-- A text is a string of bytes: its hours.
decimal_bytes : (k : ℕ) → Bytes (decimal k)
decimal_bytes k = record {
  byte = λ i. ⊎_elim
      (λ (l : length (decimal k) ≤ i). rw (get_or-eq_default (decimal k) 0 l) (omega arith))
      (λ (l : i < length (decimal k)). omega (arith, (decimal_digits k).digit i l))
      (nat_le_or_lt (length (decimal k)) i);
}

-- So are the minutes.
minutes_bytes : (m : ℕ) → m < hour_minutes → Bytes (colon ∷ two_digits m)
minutes_bytes m h = record { byte = at }
  where
    at : (i : ℕ) → get_or (colon ∷ two_digits m) i 0 < 256
    at zero = omega arith
    at (suc zero) = omega arith
    at (suc (suc zero)) = omega arith
    at (suc (suc (suc i))) = omega arith

-- Both together.
clock_bytes : (k : ℕ) → Bytes (clock_of k)
unfolding clock_of
clock_bytes k = bytes_append (decimal_bytes (k / hour_minutes)) (minutes_bytes (k % hour_minutes) (omega arith))

-- With a sign, or blank.
pub text_bytes : (v : Trop) → Bytes (text_of v)
unfolding text_of all
text_bytes bot = bytes_tested (hyphen ∷ hyphen ∷ []) refl
text_bytes (fin (pos k)) = clock_bytes k
text_bytes (fin (negsuc k)) = bytes_append (bytes_tested (hyphen ∷ []) refl) (clock_bytes (suc k))

-- ---- the reader

-- There is one answer to a string of bytes: the value whose text it is.
pub read_of : {s : List ℕ} {r : HoursReading} {v : Trop} → ReadsHours s r → HoursText v s → r ≡ value v
read_of (read t) u = ap value (text_tells t u)
read_of (ReadsHours.turned_away n) u = absurd (n _ u)

-- The value that is answered has this text.
pub read_is : {s : List ℕ} {r : HoursReading} {v : Trop} → ReadsHours s r → r ≡ value v → HoursText v s
read_is {v = v} (read {v = w} t) e = let f : w ≡ v = cc in rw f at t
read_is (ReadsHours.turned_away n) e = absurd (let z : ◌≡◌ {A = ℕ} 0 1 = cc in omega arith)

-- Where there is no such value, 18.
pub read_none : {s : List ℕ} {r : HoursReading} → ReadsHours s r → ((v : Trop) → HoursText v s → ⊥) → r ≡ refused no_text
read_none (read t) n = absurd (n _ t)
read_none (ReadsHours.turned_away m) n = refl

-- ---- the writer

-- No refusal: the buffer is long enough, and the value has a text.
pub hours_fits : (v : Trop) (room : ℕ) → hours_refusal v room ≡ 0 → (text_most ≤ room) × (has_text v ≡ true)
unfolding hours_refusal
hours_fits v room = go (ltb room text_most) refl (has_text v) refl
  where
    go : (b : Bool) → ltb room text_most ≡ b → (t : Bool) → has_text v ≡ t → cond (b || not t) no_text 0 ≡ 0 → (text_most ≤ room) × (has_text v ≡ true)
    go true e t f n = absurd (omega arith)
    go false e true f n = (ltb-false room text_most e, f)
    go false e false f n = absurd (omega arith)

-- And then there is none.
pub hours_none : (v : Trop) (room : ℕ) → text_most ≤ room → has_text v ≡ true → hours_refusal v room ≡ 0
unfolding hours_refusal
hours_none v room h e = rw (le-ltb room text_most h, e)

-- A value without a text, whatever the room.
pub hours_beyond : (v : Trop) (room : ℕ) → has_text v ≡ false → hours_refusal v room ≡ no_text
unfolding hours_refusal
hours_beyond v room e = rw e (go (ltb room text_most))
  where
    go : (b : Bool) → cond (b || true) no_text 0 ≡ no_text
    go true = refl
    go false = refl

-- There is one answer, with one buffer, to a value and a buffer.
pub written_refused : {v : Trop} {before after : List ℕ} {r : HoursWriting} {k : ℕ} → WritesHours v before r after → hours_refusal v (length before) ≡ suc k → (r ≡ unwritten (suc k)) × (after ≡ before)
written_refused (WritesHours.turned_away e) f = (ap unwritten (sym e ∙ f), refl)
written_refused (written e) f = absurd (omega arith)

-- The same without a refusal.
pub written_done : {v : Trop} {before after : List ℕ} {r : HoursWriting} → WritesHours v before r after → hours_refusal v (length before) ≡ 0
    → (r ≡ text (length (text_of v))) × (after ≡ put before 0 (text_of v))
written_done (WritesHours.turned_away e) f = absurd (omega arith)
written_done (written e) f = (refl, refl)

-- What was written stands at the start of the buffer.
pub written_text : {v : Trop} {before after : List ℕ} {r : HoursWriting} {size : ℕ} → WritesHours v before r after → r ≡ text size
    → (take size after ≡ text_of v) × (has_text v ≡ true)
written_text (WritesHours.turned_away e) f = absurd (let z : ◌≡◌ {A = ℕ} 0 1 = cc in omega arith)
written_text {v} {before} {size = size} (written e) f =
    let n : size ≡ 0 + length (text_of v) = let g : length (text_of v) ≡ size = cc in omega arith in
    (rw n (take_put before 0 (text_of v) (omega arith)), (hours_fits v (length before) e).1)

-- ---- request 2.7

module _ (reader : HoursReader) (reads : ReaderReads reader) (writer : HoursWriter) (writes : WriterWrites writer) where
  -- What is written reads back.
  back : (v : Trop) (buffer : List ℕ) → Bytes buffer → (size : ℕ) → writer.answer v buffer ≡ text size → reader (take size (writer.buffer v buffer)) ≡ value v
  back v buffer b size e =
      let w = written_text (writes v buffer b) e in
      rw w.0 (read_of (reads (text_of v) (text_bytes v)) (text_of_is v w.1))

  -- What is read is written again.
  again : (s : List ℕ) → Bytes s → (v : Trop) (buffer : List ℕ) → Bytes buffer → text_most ≤ length buffer → reader s ≡ value v
      → (writer.answer v buffer ≡ text (length s)) × (writer.buffer v buffer ≡ put buffer 0 s)
  again s b v buffer c h e =
      let t = read_is (reads s b) e in
      rw (text_is t) (written_done (writes v buffer c) (hours_none v (length buffer) h (text_within t)))

  -- Every reader and writer that answer as document 02 says keep what request 2.7 promises.
  pub hours_and_minutes : HoursAndMinutes reader writer
  hours_and_minutes = record {
    one_text = one_text;
    none_beyond = text_within;
    one_value = text_tells;
    takes_exactly = λ s b v. (read_is (reads s b), read_of (reads s b));
    else_refused = λ s b. read_none (reads s b);
    writer_refuses = λ v buffer b k. written_refused (writes v buffer b);
    writer_writes = λ v buffer b. written_done (writes v buffer b);
    reads_back = back;
    writes_back = again;
  }

-- ---- examples

-- 7:05 is 425; 0:00, -0:05, `--` and the longest text, -100000:00.
texts : List Trop
texts = fin (pos 425) ∷ fin (pos 0) ∷ fin (negsuc 4) ∷ bot ∷ fin (negsuc 5999999) ∷ fin (pos 754) ∷ fin (pos 5999999) ∷ []

-- The texts of these values.
texts_written : map text_of texts ≡ (55 ∷ 58 ∷ 48 ∷ 53 ∷ []) ∷ (48 ∷ 58 ∷ 48 ∷ 48 ∷ []) ∷ (45 ∷ 48 ∷ 58 ∷ 48 ∷ 53 ∷ []) ∷ (45 ∷ 45 ∷ []) ∷ (45 ∷ 49 ∷ 48 ∷ 48 ∷ 48 ∷ 48 ∷ 48 ∷ 58 ∷ 48 ∷ 48 ∷ []) ∷ (49 ∷ 50 ∷ 58 ∷ 51 ∷ 52 ∷ []) ∷ (57 ∷ 57 ∷ 57 ∷ 57 ∷ 57 ∷ 58 ∷ 53 ∷ 57 ∷ []) ∷ []
unfolding texts text_of clock_of decimal digits
texts_written = refl

-- The limit, on both sides, and the room.
limits_kept : map has_text (fin (pos 6000000) ∷ fin (pos 6000001) ∷ fin (negsuc 5999999) ∷ fin (negsuc 6000000) ∷ bot ∷ []) ≡ true ∷ false ∷ true ∷ false ∷ true ∷ []
unfolding blank_or_within
limits_kept = refl

room_kept : map (hours_refusal bot) (0 ∷ 9 ∷ 10 ∷ 11 ∷ []) ≡ 18 ∷ 18 ∷ 0 ∷ 0 ∷ []
unfolding hours_refusal blank_or_within
room_kept = refl

room_of_a_minute : map (hours_refusal (fin (pos 425))) (0 ∷ 9 ∷ 10 ∷ 11 ∷ []) ≡ 18 ∷ 18 ∷ 0 ∷ 0 ∷ []
unfolding hours_refusal blank_or_within
room_of_a_minute = refl
