-- The desk's four calls over lent memory and lent words, each result as one number. Document 02, 2.11.
use Rattle.std.specs.Prelude.{ℕ, ◌+◌, ◌*◌, ◌≤◌, ◌<◌, ◌≡◌, ◌⊎◌, List, get_or, length, Option, Some, None}
use Rattle.definitions.specs.Limits.{desk_memory, desk_places, refused_memory}
use Rattle.definitions.specs.Tropical.{Trop}
use Rattle.definitions.specs.Desk as Machine
use Rattle.definitions.specs.Desk.{Opens, TakesIn, Steps, Collects}
use Rattle.engine.specs.Outcome.{Gives}
use Rattle.desk.specs.State.{Holds}
use Rattle.desk.specs.Calls.{Left, AsLeft, TakenAt, HeadTried, FreedAt}
use Rattle.desk_words.specs.Words.{desk_words, desk_from, DeskPut, class_place, ClassTold}

-- ---- numbers

-- Fewer words are lent than a desk has; looked at after 23.
abbrev pub few_words : ℕ
few_words = 255

-- A step's numbers: the ticket that is told goes on waiting, or is answered now.
abbrev pub goes_on_number : ℕ
goes_on_number = 256

abbrev pub done_number : ℕ
done_number = 512

-- The number of a collected answer: its class and its own trials.
abbrev pub handed_number : ℕ → ℕ → ℕ
handed_number class own = 256 * class + 65536 * own

-- ---- the premise

-- "Each call gets memory and state as the call before left them": the desk that the words hold, with the memory. Where the memory or the words
-- are too short nothing is asked.
pub record AsLent (memory words : List ℕ) : Type 0 where
  pub left : desk_words ≤ length words → AsLeft (desk_from words) memory

-- ---- what the calls leave

-- The class word of each place tells its class, or is as it was.
abbrev pub ClassesKept : List ℕ → List ℕ → Type 0
ClassesKept before after = (k : ℕ) → k < desk_places → ClassTold after k ⊎ (get_or after (class_place k) 0 ≡ get_or before (class_place k) 0)

-- As many words as before, with the ticket that the call tells; those behind the desk are as they were.
abbrev pub Stored : List ℕ → ℕ → List ℕ → Type 0
Stored words told after = DeskPut (desk_from after) told words after × ClassesKept words after

-- The same, where the call writes every place: each class word tells its class, whatever the words held.
abbrev pub StoredAll : List ℕ → ℕ → List ℕ → Type 0
StoredAll words told after = DeskPut (desk_from after) told words after × ((k : ℕ) → k < desk_places → ClassTold after k)

-- 23 where the memory is too short, 255 where the words are too few, and nothing is changed; else what the call makes of them.
pub data OverLent (memory words : List ℕ) (Still : ℕ → Type 0) (Made : Type 0) : Type 0 where
  short : length memory < desk_memory → Still refused_memory → OverLent memory words Still Made
  too_few : desk_memory ≤ length memory → length words < desk_words → Still few_words → OverLent memory words Still Made
  makes : desk_memory ≤ length memory → desk_words ≤ length words → Made → OverLent memory words Still Made

-- What is lent is too short, with the number that a call gives then; or it is long enough.
pub data TooShort (memory words : List ℕ) : ℕ → Type 0 where
  short : length memory < desk_memory → TooShort memory words refused_memory
  too_few : desk_memory ≤ length memory → length words < desk_words → TooShort memory words few_words

abbrev pub LentFor : List ℕ → List ℕ → Option ℕ → Type 0
LentFor memory words (Some number) = TooShort memory words number
LentFor memory words None = (desk_memory ≤ length memory) × (desk_words ≤ length words)

-- A place, if there is one, is one of the desk's.
abbrev pub Inside : Option ℕ → Type 0
Inside (Some i) = i < desk_places
Inside None = Unit {0}

-- A call that moves the machine: this holds of every state of it that memory and words can hold.
abbrev pub Moves : List ℕ → List ℕ → (Machine.Desk → Type 0) → Type 0
Moves memory words From = (left : Left (desk_from words) memory) → From left.state

-- Opening: 0, with the words of a desk with nothing on it, whatever memory and words held.
abbrev pub OpenedAs : List ℕ → List ℕ → ℕ → List ℕ → Type 0
OpenedAs memory words number after = OverLent memory words (λ k. (number ≡ k) × (after ≡ words))
    ((number ≡ 0) × Opens (length memory) Machine.ready Machine.opened × Holds (desk_from after) memory Machine.opened × StoredAll words 0 after)

-- Taking in, from the state of the machine that memory and words hold: the refusal, and both as they were; or 0, with the ticket told, the
-- problem put into the memory at the first empty place, its search begun there, and every other byte and every other place as it was.
pub data TakenFrom (memory words p : List ℕ) (state : Machine.Desk) : ℕ → List ℕ → List ℕ → Type 0 where
  refused : {k : ℕ} → TakesIn (length memory) state p (Machine.TakenIn.refused k) state → TakenFrom memory words p state k memory words
  taken :
      {told at : ℕ} {memory' after : List ℕ} → TakenAt (desk_from words) memory p state at told (desk_from after) memory' → Stored words told after
      → TakenFrom memory words p state 0 memory' after

abbrev pub TakenAs : List ℕ → List ℕ → List ℕ → ℕ → List ℕ → List ℕ → Type 0
TakenAs memory words p number memory' after = OverLent memory words (λ k. (number ≡ k) × (memory' ≡ memory) × (after ≡ words))
    (Moves memory words (λ state. TakenFrom memory words p state number memory' after))

-- The ticket and the number that a step's answer tells.
pub data Tells : Machine.Stepped → ℕ → ℕ → Type 0 where
  goes_on : {told : ℕ} → Tells (Machine.goes_on told) told goes_on_number
  done : {told : ℕ} → Tells (Machine.done told) told done_number

-- A step: 0 and the words as they were where none waits; else 256 or 512, with the ticket told, the head's place after its next trial, and
-- every other as it was.
pub data SteppedFrom (memory words : List ℕ) (state : Machine.Desk) : ℕ → List ℕ → Type 0 where
  idle : Steps Gives (length memory) state Machine.none_waits state → SteppedFrom memory words state 0 words
  tried :
      {r : Machine.Stepped} {told number : ℕ} {after : List ℕ} → Tells r told number → HeadTried (desk_from words) memory state r (desk_from after) → Stored words told after
      → SteppedFrom memory words state number after

abbrev pub SteppedAs : List ℕ → List ℕ → ℕ → List ℕ → Type 0
SteppedAs memory words number after = OverLent memory words (λ k. (number ≡ k) × (after ≡ words)) (Moves memory words (λ state. SteppedFrom memory words state number after))

-- Collecting: the refusal, or 0 where the ticket still waits, and words and buffer as they were; or class and own trials, with the record at
-- the buffer's start, the place empty, and every other as it was.
pub data CollectedFrom (memory words : List ℕ) (ticket : ℕ) (buffer : List ℕ) (state : Machine.Desk) : ℕ → List ℕ → List ℕ → Type 0 where
  refused :
      {k : ℕ} → Collects (length memory) state ticket buffer (Machine.Collected.refused k) state buffer
      → CollectedFrom memory words ticket buffer state k words buffer
  still_waits :
      Collects (length memory) state ticket buffer Machine.still_waits state buffer → CollectedFrom memory words ticket buffer state 0 words buffer
  handed :
      {class own size at : ℕ} {span : Trop} {after buffer' : List ℕ}
      → FreedAt (desk_from words) memory state ticket buffer at (Machine.collected class span own size) (desk_from after) buffer' → Stored words ticket after
      → CollectedFrom memory words ticket buffer state (handed_number class own) after buffer'

abbrev pub CollectedAs : List ℕ → List ℕ → ℕ → List ℕ → ℕ → List ℕ → List ℕ → Type 0
CollectedAs memory words ticket buffer number after buffer' = OverLent memory words (λ k. (number ≡ k) × (after ≡ words) × (buffer' ≡ buffer))
    (Moves memory words (λ state. CollectedFrom memory words ticket buffer state number after buffer'))
