-- Calls one after another over lent memory and lent words, as their caller sees them. Document 02, 2.11: "for every sequence of takings-in, steps
-- and collections from an opening on".
use Rattle.std.specs.Prelude.{ℕ, ◌<◌, ◌≡◌, List, [], ◌∷◌, ◌++◌, length}
use Rattle.definitions.specs.Tropical.{Trop}
use Rattle.definitions.specs.Desk as Machine
use Rattle.definitions.specs.Desk.{Run}
use Rattle.engine.specs.Outcome.{Gives}
use Rattle.desk.specs.State.{Holds}
use Rattle.desk_words.specs.Words.{desk_from, told_in}
use Rattle.lent_desk.specs.Entries.{OpenedAs, TakenAs, SteppedAs, CollectedAs, Tells, handed_number}

-- ---- the calls of the code

-- What is seen of a call: what was handed in, the number that came back, and the ticket that the words tell after it; of collecting the
-- buffer before and after.
pub data Seen : Type 0 where
  took_in : (p : List ℕ) (number told : ℕ) → Seen
  stepped : (number told : ℕ) → Seen
  collected : (ticket : ℕ) (before : List ℕ) (number : ℕ) (after : List ℕ) → Seen

-- "Each call gets memory and state as the call before left them": from memory and words, what was seen of each call in turn, to memory and
-- words. Of a call its contract is known, and nothing else.
pub data Calls : List ℕ → List ℕ → List Seen → List ℕ → List ℕ → Type 0 where
  no_more : {memory words : List ℕ} → Calls memory words [] memory words
  take_in :
      {memory words p memory₁ words₁ memory₂ words₂ : List ℕ} {number : ℕ} {later : List Seen} → TakenAs memory words p number memory₁ words₁
      → Calls memory₁ words₁ later memory₂ words₂ → Calls memory words (took_in p number (told_in words₁) ∷ later) memory₂ words₂
  step :
      {memory words words₁ memory₂ words₂ : List ℕ} {number : ℕ} {later : List Seen} → SteppedAs memory words number words₁
      → Calls memory words₁ later memory₂ words₂ → Calls memory words (stepped number (told_in words₁) ∷ later) memory₂ words₂
  collect :
      {memory words before words₁ after memory₂ words₂ : List ℕ} {ticket number : ℕ} {later : List Seen}
      → CollectedAs memory words ticket before number words₁ after → Calls memory words₁ later memory₂ words₂
      → Calls memory words (collected ticket before number after ∷ later) memory₂ words₂

-- "The memory may hold anything before opening": an opening of any memory and words that gave 0, and the calls after it.
pub record SinceOpening (seen : List Seen) : Type 0 where
  pub memory : List ℕ
  pub words : List ℕ
  pub first : List ℕ
  pub opening : OpenedAs memory words 0 first
  pub memory_now : List ℕ
  pub words_now : List ℕ
  pub calls : Calls memory first seen memory_now words_now

-- ---- the machine's reports

pub data Report : Type 0 where
  taking_in : (p : List ℕ) → Machine.TakenIn → Report
  stepping : Machine.Stepped → Report
  collecting : (number : ℕ) (before : List ℕ) → Machine.Collected → (after : List ℕ) → Report

-- Those of a run, in turn.
unfoldable pub reports : {memory k : ℕ} {d e : Machine.Desk} → Run Gives memory d k e → List Report
reports Machine.nothing = []
reports (Machine.take_in {p = p} {r = r} run t) = reports run ++ (taking_in p r ∷ [])
reports (Machine.one_step_is {r = r} run s) = reports run ++ (stepping r ∷ [])
reports (Machine.collect {number = number} {before = before} {after = after} {r = r} run c) = reports run ++ (collecting number before r after ∷ [])

-- What is seen of a call tells the machine's report: 0 and a ticket, or a refusal; a step's number and ticket; and for a collection the refusal,
-- a number below 256, 0 where the ticket still waits, or class and own trials. Problem, ticket and both buffers are the machine's.
pub data SeenAs : Seen → Report → Type 0 where
  ticket : {p : List ℕ} {told : ℕ} → SeenAs (took_in p 0 told) (taking_in p (Machine.ticket told))
  not_taken : {p : List ℕ} {k told : ℕ} → 0 < k → SeenAs (took_in p k told) (taking_in p (Machine.TakenIn.refused k))
  idle : {told : ℕ} → SeenAs (stepped 0 told) (stepping Machine.none_waits)
  tried : {r : Machine.Stepped} {told number : ℕ} → Tells r told number → SeenAs (stepped number told) (stepping r)
  not_collected :
      {k number : ℕ} {buffer : List ℕ} → 0 < k → k < 256
      → SeenAs (collected number buffer k buffer) (collecting number buffer (Machine.Collected.refused k) buffer)
  still_waits : {number : ℕ} {buffer : List ℕ} → SeenAs (collected number buffer 0 buffer) (collecting number buffer Machine.still_waits buffer)
  handed :
      {number class own size : ℕ} {span : Trop} {before after : List ℕ} → 0 < class
      → SeenAs (collected number before (handed_number class own) after) (collecting number before (Machine.collected class span own size) after)

pub data AllSeen : List Seen → List Report → Type 0 where
  none : AllSeen [] []
  more : {x : Seen} {r : Report} {seen : List Seen} {told : List Report} → SeenAs x r → AllSeen seen told → AllSeen (x ∷ seen) (r ∷ told)

-- The calls as a run of the machine from a state on: with the same reports, to the state that memory and words hold then.
pub record AsRun (memory : ℕ) (d : Machine.Desk) (seen : List Seen) (memory_now words_now : List ℕ) : Type 0 where
  pub steps : ℕ
  pub state : Machine.Desk
  pub run : Run Gives memory d steps state
  pub same : AllSeen seen (reports run)
  pub same_length : length memory_now ≡ memory
  pub holds : Holds (desk_from words_now) memory_now state
