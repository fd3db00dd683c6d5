-- The state of the desk in code, what a change of it leaves, and which state of the machine it holds.
use Rattle.std.specs.Prelude.{ℕ, zero, suc, ◌+◌, ◌*◌, ◌-◌, ◌%◌, ◌≤◌, ◌<◌, ◌≡◌, List, [], ◌∷◌, length, get_or, set, Option, Some, None}
use Rattle.definitions.specs.Limits.{desk_places, desk_memory, problem_most, last_ticket}
use Rattle.definitions.specs.Offset.{trop_of}
use Rattle.definitions.specs.ProblemRecord.{meant}
use Rattle.definitions.specs.Questions.{part}
use Rattle.definitions.specs.Desk as Machine
use Rattle.engine.specs.OneTrial.{fresh, class_in, span_in, PendingFor, answer_with, AnsweredFor, TrialFor}
use Rattle.desk.specs.declared.state.Place.{Place}
use Rattle.desk.specs.declared.state.Front.{Front}

-- The desk: its front, and its places.
pub record Desk : Type 0 where
  pub front : Front
  pub places : List Place

abbrev pub desk_of : Front → List Place → Desk
desk_of f places = record { front = f; places = places }

-- The size of a front's line, and numbers within it.
pub record Fits (f : Front) : Type 0 where
  pub line_size : length f.line ≡ desk_places
  pub head_inside : f.head < desk_places
  pub few : f.waiting ≤ desk_places

-- ---- changes

abbrev pub front_joined : Front → ℕ → Front
front_joined f at = record { given = f.given; head = f.head; waiting = f.waiting + 1; line = set f.line ((f.head + f.waiting) % desk_places) at }

abbrev pub front_gone : Front → Front
front_gone f = record { given = f.given; head = (f.head + 1) % desk_places; waiting = f.waiting - 1; line = f.line }

-- ---- looking

-- Past the last place: no ticket.
abbrev pub no_place : Place
no_place = record {
  ticket = 0;
  size = 0;
  pending = record {
    n = 0;
    m = 0;
    search = record { made = 0; bracket = record { low = 0; high = 0 }; class = None };
    kept = record { start = 0; second = 0; picks = [] };
  };
}

-- What stands at a place.
abbrev pub place_in : Desk → ℕ → Place
place_in d i = get_or d.places i no_place

-- The place at the head of the line.
abbrev pub head_of : Front → ℕ
head_of f = get_or f.line f.head 0

-- Every place but this one stands as it stood.
pub record OthersStay (d : Desk) (at : ℕ) (d' : Desk) : Type 0 where
  pub stay : (k : ℕ) → (k ≡ at → ⊥) → place_in d' k ≡ place_in d k

-- The first place with this ticket, which is 0 at the empty ones; and that no place has it.
pub record FirstWith (d : Desk) (ticket i : ℕ) : Type 0 where
  pub inside : i < desk_places
  pub here : (place_in d i).ticket ≡ ticket
  pub before : (k : ℕ) → k < i → (place_in d k).ticket ≡ ticket → ⊥

abbrev pub NoneWith : Desk → ℕ → Type 0
NoneWith d ticket = (k : ℕ) → k < desk_places → (place_in d k).ticket ≡ ticket → ⊥

-- The first place with this ticket, if one has it.
pub record Finds (d : Desk) (ticket : ℕ) (r : Option ℕ) : Type 0 where
  pub found : (i : ℕ) → r ≡ Some i → FirstWith d ticket i
  pub nowhere : r ≡ None → NoneWith d ticket

-- The first empty place, if there is one.
abbrev pub FirstFree : Desk → Option ℕ → Type 0
FirstFree d r = Finds d 0 r

-- The first place that holds the ticket, if one does; none does for ticket 0.
pub record HoldsTicket (d : Desk) (ticket : ℕ) (r : Option ℕ) : Type 0 where
  pub held : (i : ℕ) → r ≡ Some i → (0 < ticket) × FirstWith d ticket i
  pub nowhere : r ≡ None → 0 < ticket → NoneWith d ticket

-- ---- parts of calls

-- There is room for a problem that was begun, where the place is free.
pub record Room (f : Front) (at : ℕ) (p memory : List ℕ) : Type 0 where
  pub fits : Fits f
  pub inside : at < desk_places
  pub few : f.waiting < desk_places
  pub ticket_left : f.given < last_ticket
  pub short : length p ≤ problem_most
  pub memory_enough : desk_memory ≤ length memory

-- ---- the state of the machine that it holds

-- The line: so many entries of the ring, from the head on.
unfoldable pub ring : List ℕ → ℕ → ℕ → List ℕ
ring l head zero = []
ring l head (suc n) = get_or l (head % desk_places) 0 ∷ ring l (head + 1) n

-- The bytes of the problem at a place, of this size.
abbrev pub bytes_at : List ℕ → ℕ → ℕ → List ℕ
bytes_at memory i size = part memory (i * problem_most) size

-- A place with a ticket, and a problem that fits it.
pub record Seated (c : Place) : Type 0 where
  pub some : 0 < c.ticket
  pub size_most : c.size ≤ problem_most

-- A place with nothing on it.
abbrev pub blank_place : Place
blank_place = record { ticket = 0; size = 0; pending = fresh 0 0 }

-- What a place with these bytes holds.
pub data PlaceIs (bytes : List ℕ) (c : Place) : Machine.Place → Type 0 where
  is_empty : c ≡ blank_place → PlaceIs bytes c Machine.empty
  is_waiting : Seated c → PendingFor (meant bytes) c.pending → PlaceIs bytes c (Machine.waits c.ticket (meant bytes) c.pending.search.made)
  is_answered :
      Seated c → (a : AnsweredFor (meant bytes) c.pending)
      → PlaceIs bytes c (Machine.answered c.ticket (meant bytes) (class_in c.pending) (trop_of (span_in c.pending)) c.pending.search.made
      (answer_with (meant bytes) c.pending a.stamps a.picks))

-- The state and the memory hold this state of the machine.
pub record Holds (d : Desk) (memory : List ℕ) (state : Machine.Desk) : Type 0 where
  pub fits : Fits d.front
  pub size : length d.places ≡ desk_places
  pub given_is : d.front.given ≡ state.given
  pub line_is : ring d.front.line d.front.head d.front.waiting ≡ state.line
  pub places_size : length state.places ≡ desk_places
  pub places : (i : ℕ) → i < desk_places → PlaceIs (bytes_at memory i (place_in d i).size) (place_in d i) (Machine.place_at state i)

-- A place whose problem can have its next trial,
pub record Tryable (memory : List ℕ) (at : ℕ) (c : Place) : Type 0 where
  pub inside : at < desk_places
  pub memory_enough : desk_memory ≤ length memory
  pub size_most : c.size ≤ problem_most
  pub pending : PendingFor (meant (bytes_at memory at c.size)) c.pending

-- and the place after it.
pub record Tried (bytes : List ℕ) (c r : Place) : Type 0 where
  pub ticket_is : r.ticket ≡ c.ticket
  pub size_is : r.size ≡ c.size
  pub trial : TrialFor (meant bytes) c.pending r.pending
