-- Results of the reader and the writer of hours and minutes as one number: the low byte is the refusal, 0 where there is none.
use Rattle.std.specs.Prelude.{ℕ, ◌*◌, ◌≡◌, List}
use Rattle.definitions.specs.Tropical.{Trop}
use Rattle.definitions.specs.Offset.{trop_of}
use Rattle.definitions.specs.Hours as Results
use Rattle.definitions.specs.Hours.{HoursReading, HoursWriting, ReadsHours, WritesHours}
use Rattle.capi.specs.Numbers.{low_byte, low_half}

-- ---- span_hours_read

-- The reader's answer: 2³² × the value's offset number, or the refusal.
pub data HoursNumbered : HoursReading → ℕ → Type 0 where
  value : (k : ℕ) → HoursNumbered (Results.value (trop_of k)) (low_half * k)
  refused : (k : ℕ) → HoursNumbered (Results.refused k) k

-- The reader's answer as a number.
pub record ReadsHoursAs (s : List ℕ) (number : ℕ) : Type 0 where
  pub reading : HoursReading
  pub reads : ReadsHours s reading
  pub numbered : HoursNumbered reading number

-- ---- span_hours_write

-- The writer's answer: 256 × the size of the text, or the refusal.
abbrev pub writing_number : HoursWriting → ℕ
writing_number (Results.text size) = low_byte * size
writing_number (Results.unwritten k) = k

-- The writer's answer as a number, and its buffer.
pub record WritesHoursAs (v : Trop) (number : ℕ) (before after : List ℕ) : Type 0 where
  pub writing : HoursWriting
  pub writes : WritesHours v before writing after
  pub number_is : number ≡ writing_number writing
