-- What the code's answers mean in document 02's words, and what reading a part of a text finds.
use Rattle.std.specs.Prelude.{ℕ, ◌+◌, ◌<◌, ◌≡◌, List, ◌∷◌, Option, Some, None, Result, Ok, Err}
use Rattle.definitions.specs.Limits.{hour_minutes}
use Rattle.definitions.specs.Offset.{trop_of}
use Rattle.definitions.specs.Hours.{colon, two_digits, HoursReading, value, refused, HoursWriting, text, unwritten}
use Rattle.records.specs.declared.refusal.Refusal.{Refusal}
use Rattle.records.specs.Refusals.{number_of}

-- The reader's answer: the value that its offset number stands for, or the refusal's number.
abbrev pub reading_of : Result ℕ Refusal → HoursReading
reading_of (Ok k) = value (trop_of k)
reading_of (Err r) = refused (number_of r)

-- The writer's answer: the size of the text, or the refusal's number.
abbrev pub writing_of : Result ℕ Refusal → HoursWriting
writing_of (Ok size) = text size
writing_of (Err r) = unwritten (number_of r)

-- What is found is such a number; nothing is found where there is none.
abbrev pub FoundBy : (ℕ → Type 0) → Option ℕ → Type 0
FoundBy Is (Some k) = Is k
FoundBy Is None = (k : ℕ) → Is k → ⊥

-- The byte is the digit of a number below 10.
pub record IsDigit (byte k : ℕ) : Type 0 where
  pub small : k < 10
  pub byte_is : byte ≡ 48 + k

-- A colon and two digits of minutes below 60.
pub record IsMinutes (part : List ℕ) (k : ℕ) : Type 0 where
  pub below_hour : k < hour_minutes
  pub part_is : part ≡ colon ∷ two_digits k
