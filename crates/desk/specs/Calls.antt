-- What the desk's calls leave, in the words of the machine. Document 02, 2.11.
use Rattle.std.specs.Prelude.{ℕ, ◌+◌, ◌*◌, ◌%◌, ◌≤◌, ◌<◌, ◌≡◌, cond, List, length, set, replicate, Option, Some, None, Result, Ok, Err}
use Rattle.definitions.specs.Limits.{desk_places, desk_memory, problem_most}
use Rattle.definitions.specs.Bytes.{put}
use Rattle.definitions.specs.Offset.{trop_of}
use Rattle.definitions.specs.ProblemRecord.{meant, n_field, m_field}
use Rattle.definitions.specs.Desk as Machine
use Rattle.definitions.specs.Desk.{FirstEmpty, FromOpening, TakesIn, Steps, Collects}
use Rattle.records.specs.declared.refusal.Refusal.{Refusal}
use Rattle.records.specs.declared.refusal.Refusal.TheVariants.{Memory}
use Rattle.records.specs.Classes.{class_number}
use Rattle.records.specs.Refusals.{number_of}
use Rattle.engine.specs.OneTrial.{fresh}
use Rattle.engine.specs.declared.one_trial.Pending.{Pending}
use Rattle.engine.specs.declared.solve.Answered.{Answered}
use Rattle.engine.specs.Outcome.{Gives}
use Rattle.desk.specs.declared.calls.Taking.{Taking}
use Rattle.desk.specs.declared.calls.Stepping.{Stepping}
use Rattle.desk.specs.declared.state.Front.{Front}
use Rattle.desk.specs.declared.state.Place.{Place}
use Rattle.desk.specs.State.{Desk, desk_of, place_in, head_of, blank_place, bytes_at, OthersStay, FirstFree, HoldsTicket, Holds, Tried}

-- ---- the premise

-- "Each call gets memory and state as the call before left them": some sequence of calls from an opening on left them so. Where the memory
-- is too short nothing is asked, and 23 is given.
pub record Left (d : Desk) (memory : List ℕ) : Type 0 where
  pub state : Machine.Desk
  pub from_opening : FromOpening Gives (length memory) state
  pub holds : Holds d memory state

abbrev pub AsLeft : Desk → List ℕ → Type 0
AsLeft d memory = desk_memory ≤ length memory → Left d memory

-- ---- opening

-- 23, or the front of a desk with nothing on it, whatever the memory holds.
pub record OpenedBy (memory : List ℕ) (r : Result Front Refusal) : Type 0 where
  pub short : length memory < desk_memory → r ≡ Err Memory
  pub ready : desk_memory ≤ length memory → (f : Front) × (r ≡ Ok f) × Holds (desk_of f (replicate desk_places blank_place)) memory Machine.opened

-- The other calls get the front of a desk and one of its places.

-- ---- taking in

-- A desk with this front, whose first free place this is.
pub record CanTake (f : Front) (at : Option ℕ) (memory : List ℕ) : Type 0 where
  pub places : List Place
  pub left : AsLeft (desk_of f places) memory
  pub free : FirstFree (desk_of f places) at

-- A problem that was begun, with the next ticket, at the end of the line.
abbrev pub entry : Front → ℕ → List ℕ → Pending → Taking
entry f at p pending = record {
  ticket = f.given + 1;
  front = record { given = f.given + 1; head = f.head; waiting = f.waiting + 1; line = set f.line ((f.head + f.waiting) % desk_places) at };
  place = record { ticket = f.given + 1; size = length p; pending = pending };
}

-- The place of a problem that was taken in has its size, and no trial and no look of it is made.
abbrev pub SearchBegun : List ℕ → ℕ → Desk → Type 0
SearchBegun p at d = ((place_in d at).size ≡ length p) × ((place_in d at).pending ≡ fresh (n_field (meant p)) (m_field (meant p)))

-- A problem that got a ticket is put into the memory at the first free place, its search begun; every other byte and every other place stays.
pub record TakenAt (d : Desk) (memory p : List ℕ) (state : Machine.Desk) (at ticket : ℕ) (d' : Desk) (memory' : List ℕ) : Type 0 where
  pub first : FirstEmpty state at
  pub memory_is : memory' ≡ put memory (at * problem_most) p
  pub same_length : length memory' ≡ length memory
  pub begun : SearchBegun p at d'
  pub others : OthersStay d at d'
  pub next : Machine.Desk
  pub takes : TakesIn (length memory) state p (Machine.ticket ticket) next
  pub holds : Holds d' memory' next

-- The machine's transition: a refusal leaves memory and state as they were, a ticket every other place.
unfoldable pub TookIn : Desk → List ℕ → List ℕ → Machine.Desk → Option ℕ → Result Taking Refusal → List ℕ → Type 0
TookIn d memory p state at (Err k) memory' = TakesIn (length memory) state p (Machine.TakenIn.refused (number_of k)) state × (memory' ≡ memory)
TookIn d memory p state at (Ok t) memory' = (i : ℕ) × (at ≡ Some i) × TakenAt d memory p state i t.ticket (desk_of t.front (set d.places i t.place)) memory'

-- 23 where the memory is too short, else that transition of every state that the desk can hold.
pub record TookAt (f : Front) (at : Option ℕ) (memory p : List ℕ) (r : Result Taking Refusal) (memory' : List ℕ) : Type 0 where
  pub short : length memory < desk_memory → (r ≡ Err Memory) × (memory' ≡ memory)
  pub moves : {places : List Place} → desk_memory ≤ length memory → (left : Left (desk_of f places) memory) → FirstFree (desk_of f places) at
      → TookIn (desk_of f places) memory p left.state at r memory'

-- ---- a step

-- A desk with this front, at whose head this place stands.
abbrev pub AtHead : Front → List Place → Place → Type 0
AtHead f places c = head_of f < desk_places → place_in (desk_of f places) (head_of f) ≡ c

pub record CanStep (f : Front) (c : Place) (memory : List ℕ) : Type 0 where
  pub places : List Place
  pub left : AsLeft (desk_of f places) memory
  pub here : AtHead f places c

-- The head's place after the next trial of its search, the one that document 01 makes next; every other place stays.
pub record HeadTried (d : Desk) (memory : List ℕ) (state : Machine.Desk) (r : Machine.Stepped) (d' : Desk) : Type 0 where
  pub inside : head_of d.front < desk_places
  pub trial : Tried (bytes_at memory (head_of d.front) (place_in d (head_of d.front)).size) (place_in d (head_of d.front)) (place_in d' (head_of d.front))
  pub others : OthersStay d (head_of d.front) d'
  pub next : Machine.Desk
  pub steps : Steps Gives (length memory) state r next
  pub holds : Holds d' memory next

-- What a step that made a trial answers.
abbrev pub stepped_as : Stepping → Machine.Stepped
stepped_as s = cond s.done (Machine.done s.ticket) (Machine.goes_on s.ticket)

-- The machine's transition, which is never refused: with none waiting nothing changes.
unfoldable pub DidStep : Desk → List ℕ → Machine.Desk → Result (Option Stepping) Refusal → Type 0
DidStep d memory state (Err k) = ⊥
DidStep d memory state (Ok None) = Steps Gives (length memory) state Machine.none_waits state
DidStep d memory state (Ok (Some s)) = HeadTried d memory state (stepped_as s) (desk_of s.front (set d.places (head_of d.front) s.place))

pub record StepAt (f : Front) (c : Place) (memory : List ℕ) (r : Result (Option Stepping) Refusal) : Type 0 where
  pub short : length memory < desk_memory → r ≡ Err Memory
  pub moves : {places : List Place} → desk_memory ≤ length memory → (left : Left (desk_of f places) memory) → AtHead f places c
      → DidStep (desk_of f places) memory left.state r

-- ---- collecting

-- What stands at a place, if there is one.
abbrev pub stands_at : Desk → Option ℕ → Option Place
stands_at d (Some i) = Some (place_in d i)
stands_at d None = None

-- A desk that has the ticket at a place, which is given, or nowhere.
pub record CanCollect (c : Option Place) (memory : List ℕ) : Type 0 where
  pub desk : Desk
  pub ticket : ℕ
  pub at : Option ℕ
  pub left : AsLeft desk memory
  pub found : HoldsTicket desk ticket at
  pub here : c ≡ stands_at desk at

-- The place of the ticket whose answer was handed over is empty; every other place stays.
pub record FreedAt (d : Desk) (memory : List ℕ) (state : Machine.Desk) (ticket : ℕ) (buffer : List ℕ) (at : ℕ) (r : Machine.Collected) (d' : Desk) (buffer' : List ℕ) : Type 0 where
  pub inside : at < desk_places
  pub found : HoldsTicket d ticket (Some at)
  pub same_length : length buffer' ≡ length buffer
  pub others : OthersStay d at d'
  pub next : Machine.Desk
  pub holds : Holds d' memory next
  pub collects : Collects (length memory) state ticket buffer r next buffer'

-- The machine's transition: a refusal, and the word that the ticket still waits, change nothing.
unfoldable pub DidCollect : Desk → List ℕ → Machine.Desk → ℕ → List ℕ → Option ℕ → Result (Option Answered) Refusal → List ℕ → Type 0
DidCollect d memory state ticket buffer at (Err k) buffer' = Collects (length memory) state ticket buffer (Machine.Collected.refused (number_of k)) state buffer × (buffer' ≡ buffer)
DidCollect d memory state ticket buffer at (Ok None) buffer' = Collects (length memory) state ticket buffer Machine.still_waits state buffer × (buffer' ≡ buffer)
DidCollect d memory state ticket buffer at (Ok (Some a)) buffer' = (i : ℕ) × (at ≡ Some i)
    × FreedAt d memory state ticket buffer i (Machine.collected (class_number a.class) (trop_of a.span) a.trials a.size) (desk_of d.front (set d.places i blank_place)) buffer'

pub record CollectedAt (c : Option Place) (memory buffer : List ℕ) (r : Result (Option Answered) Refusal) (buffer' : List ℕ) : Type 0 where
  pub short : length memory < desk_memory → (r ≡ Err Memory) × (buffer' ≡ buffer)
  pub moves : {d : Desk} {ticket : ℕ} {at : Option ℕ} → desk_memory ≤ length memory → (left : Left d memory) → HoldsTicket d ticket at → c ≡ stands_at d at
      → DidCollect d memory left.state ticket buffer at r buffer'
