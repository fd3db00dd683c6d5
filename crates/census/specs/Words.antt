-- What the program reads in its words, and what it puts out for three of them.
use Rattle.std.specs.Prelude.{ℕ, min, ◌≡◌, true, false, ◌&&◌, Option, None, Some, List, [], take}
use Rattle.definitions.specs.Limits.{census_most}
use Rattle.definitions.specs.Census.{is_number, number_of, CensusOutput}

-- Room for a line: seven numbers of at most 20 digits, each with a byte behind it.
abbrev pub line_room : ℕ
line_room = 147

-- A number as far as 65,536.
abbrev pub up_to : ℕ → ℕ
up_to k = min k census_most

-- What a word is: the number as far as that, or none.
pub data WordRead (word : List ℕ) : Option ℕ → Type 0 where
  number : is_number word ≡ true → WordRead word (Some (up_to (number_of word)))
  other : is_number word ≡ false → WordRead word None

-- What is put out of a buffer: so many bytes, or nothing where there is no line.
abbrev pub put_out : Option ℕ → List ℕ → List ℕ
put_out (Some size) line = take size line
put_out None line = []

-- Three numbers show the line of their census; other words nothing.
pub data Answered (first second third : List ℕ) : List ℕ → Type 0 where
  numbers :
      {output : List ℕ} → is_number first ≡ true → is_number second ≡ true → is_number third ≡ true
      → CensusOutput (number_of first) (number_of second) (number_of third) output → Answered first second third output
  others : (is_number first && (is_number second && is_number third)) ≡ false → Answered first second third []
