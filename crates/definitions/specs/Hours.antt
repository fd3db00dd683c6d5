-- Hours and minutes on the sheet: the text of a span or stamp, its reader and its writer. Document 02, 2.7. Text is in ASCII.
use Rattle.std.specs.Prelude.{ℕ, suc, ◌+◌, ◌*◌, ◌/◌, ◌%◌, ◌≤◌, ◌<◌, ◌≡◌, Bool, true, not, ◌||◌, ◌↔◌, List, [], ◌∷◌, ◌++◌, ltb, length, take, pos, negsuc}
use Rattle.definitions.specs.Limits.{text_limit, text_most, hour_minutes}
use Rattle.definitions.specs.Tropical.{Trop, bot, fin}
use Rattle.definitions.specs.Bytes.{Bytes, put, blank_or_within, first}
use Rattle.definitions.specs.Programs.{decimal}

-- ---- texts

-- `-` and `:`
abbrev pub hyphen : ℕ
hyphen = 45

abbrev pub colon : ℕ
colon = 58

-- A number below 100 in two digits.
abbrev pub two_digits : ℕ → List ℕ
two_digits k = (48 + k / 10) ∷ (48 + k % 10) ∷ []

-- So many minutes in hours and minutes: hours without leading zeros, a colon, two digits of minutes below 60.
pub record Clock (k : ℕ) (s : List ℕ) : Type 0 where
  pub hours : ℕ
  pub minutes : ℕ
  pub below_hour : minutes < hour_minutes
  pub number_is : k ≡ hour_minutes * hours + minutes
  pub text_is : s ≡ decimal hours ++ (colon ∷ two_digits minutes)

-- A span or stamp within ±6,000,000, or blank, and its text. Blank is two hyphens. A value below zero has a minus; zero is
-- 0:00 and never has one.
pub data HoursText : Trop → List ℕ → Type 0 where
  blank : HoursText bot (hyphen ∷ hyphen ∷ [])
  plain : {k : ℕ} {s : List ℕ} → k ≤ text_limit → Clock k s → HoursText (fin (pos k)) s
  minus : {k : ℕ} {s : List ℕ} → suc k ≤ text_limit → Clock (suc k) s → HoursText (fin (negsuc k)) (hyphen ∷ s)

-- Blank, or within ±6,000,000.
abbrev pub has_text : Trop → Bool
has_text v = blank_or_within text_limit v

-- The text as a function of the value. That it is the text of a value that has one, and the only one, is a theorem (`OneText`).
unfoldable pub clock_of : ℕ → List ℕ
clock_of k = decimal (k / hour_minutes) ++ (colon ∷ two_digits (k % hour_minutes))

unfoldable pub text_of : Trop → List ℕ
text_of bot = hyphen ∷ hyphen ∷ []
text_of (fin (pos k)) = clock_of k
text_of (fin (negsuc k)) = hyphen ∷ clock_of (suc k)

-- ---- the reader and the writer

-- Refusal 18: the text is not of this form, a value read or to be written is beyond ±6,000,000, or the writer's buffer is
-- shorter than 10 bytes.
abbrev pub no_text : ℕ
no_text = 18

-- What the reader answers: the value, or the refusal's number.
pub data HoursReading : Type 0 where
  value : Trop → HoursReading
  refused : ℕ → HoursReading

-- The reader's answer to a string of bytes: the value whose text it is, or 18 where it is no value's text.
pub data ReadsHours (s : List ℕ) : HoursReading → Type 0 where
  read : {v : Trop} → HoursText v s → ReadsHours s (value v)
  turned_away : ((v : Trop) → HoursText v s → ⊥) → ReadsHours s (refused no_text)

-- The writer's refusal for a value and a buffer of `room` bytes, 0 where none applies.
unfoldable pub hours_refusal : Trop → ℕ → ℕ
hours_refusal v room = first (record { applies = ltb room text_most || not (has_text v); number = no_text } ∷ [])

-- What the writer answers: the size of the text, or the refusal's number.
pub data HoursWriting : Type 0 where
  text : ℕ → HoursWriting
  unwritten : ℕ → HoursWriting

-- The writer's answer and its buffer, for a value and a lent buffer: a refusal leaves the buffer as it was; else the text
-- stands at its start, and every byte after the text is as it was.
pub data WritesHours (v : Trop) (before : List ℕ) : HoursWriting → List ℕ → Type 0 where
  turned_away : {k : ℕ} → hours_refusal v (length before) ≡ suc k → WritesHours v before (unwritten (suc k)) before
  written : hours_refusal v (length before) ≡ 0 → WritesHours v before (text (length (text_of v))) (put before 0 (text_of v))

-- ---- what request 2.7 promises, of any reader and writer on bytes

-- A reader: what it answers to a string of bytes.
abbrev pub HoursReader : Type 0
HoursReader = List ℕ → HoursReading

-- A writer: for a value and a lent buffer what it answers, and the buffer afterwards.
pub record HoursWriter : Type 0 where
  pub answer : Trop → List ℕ → HoursWriting
  pub buffer : Trop → List ℕ → List ℕ

-- The reader answers every string of bytes, and the writer every value and buffer, as said above.
abbrev pub ReaderReads : HoursReader → Type 0
ReaderReads reader = (s : List ℕ) → Bytes s → ReadsHours s (reader s)

abbrev pub WriterWrites : HoursWriter → Type 0
WriterWrites writer = (v : Trop) (before : List ℕ) → Bytes before → WritesHours v before (writer.answer v before) (writer.buffer v before)

-- The value has just one text.
pub record OneText (v : Trop) : Type 0 where
  pub text_of_is : HoursText v (text_of v)
  pub no_other : {s : List ℕ} → HoursText v s → s ≡ text_of v

-- Each value within ±6,000,000, and blank, has just one text, and no two the same; the reader takes exactly these texts, and refuses every other string by
-- 18; a refusal writes nothing; what is written reads back as itself, and what is read is written again to the same bytes.
pub record HoursAndMinutes (reader : HoursReader) (writer : HoursWriter) : Type 0 where
  pub one_text : (v : Trop) → has_text v ≡ true → OneText v
  pub none_beyond : {v : Trop} {s : List ℕ} → HoursText v s → has_text v ≡ true
  pub one_value : {v w : Trop} {s : List ℕ} → HoursText v s → HoursText w s → v ≡ w
  pub takes_exactly : (s : List ℕ) → Bytes s → (v : Trop) → (reader s ≡ value v) ↔ HoursText v s
  pub else_refused : (s : List ℕ) → Bytes s → ((v : Trop) → HoursText v s → ⊥) → reader s ≡ refused no_text
  pub writer_refuses :
      (v : Trop) (buffer : List ℕ) → Bytes buffer → (k : ℕ) → hours_refusal v (length buffer) ≡ suc k
      → (writer.answer v buffer ≡ unwritten (suc k)) × (writer.buffer v buffer ≡ buffer)
  pub writer_writes :
      (v : Trop) (buffer : List ℕ) → Bytes buffer → hours_refusal v (length buffer) ≡ 0
      → (writer.answer v buffer ≡ text (length (text_of v))) × (writer.buffer v buffer ≡ put buffer 0 (text_of v))
  pub reads_back :
      (v : Trop) (buffer : List ℕ) → Bytes buffer → (size : ℕ) → writer.answer v buffer ≡ text size
      → reader (take size (writer.buffer v buffer)) ≡ value v
  pub writes_back :
      (s : List ℕ) → Bytes s → (v : Trop) (buffer : List ℕ) → Bytes buffer → text_most ≤ length buffer → reader s ≡ value v
      → (writer.answer v buffer ≡ text (length s)) × (writer.buffer v buffer ≡ put buffer 0 s)
