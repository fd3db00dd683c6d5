-- The test of mark bytes as one number: the low byte is 255 where a list is shorter than what is to be compared, else 0.
use Rattle.std.specs.Prelude.{ℕ, ◌≤◌, ◌<◌, Bool, true, false, List, ◌⊎◌, length}
use Rattle.definitions.specs.Marks.{MarksCompared}
use Rattle.capi.specs.Numbers.{low_byte, too_few_places}

-- Yes is 256, no is 0.
abbrev pub said_number : Bool → ℕ
said_number true = low_byte
said_number false = 0

-- The first `count` bytes of two lists compared, where both have so many.
pub data MarksAs (count : ℕ) (xs ys : List ℕ) : ℕ → Type 0 where
  too_few : (length xs < count) ⊎ (length ys < count) → MarksAs count xs ys too_few_places
  compared : {says : Bool} → count ≤ length xs → count ≤ length ys → MarksCompared count xs ys says → MarksAs count xs ys (said_number says)
