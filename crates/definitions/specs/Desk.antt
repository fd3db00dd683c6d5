-- A desk for sixteen problems above the engine: a machine of tickets, a line and places; its laws are in DeskLaws. Document 02, 2.11.
use Rattle.std.specs.Prelude.{ℕ, suc, ◌+◌, ◌≤◌, ◌<◌, ◌≡◌, cond, List, [], ◌∷◌, ◌++◌, eqb, ltb, leb, length, get_or, set, replicate}
use Rattle.definitions.specs.Limits.{desk_places, desk_memory, last_ticket, answer_most, refused_room, refused_full, refused_ticket, refused_memory}
use Rattle.definitions.specs.Tropical.{Trop}
use Rattle.definitions.specs.Bytes.{Clause, first, or_else}
use Rattle.definitions.specs.ProblemRecord.{desk_kinds, refusal_for, problem_of, meant, n_field, m_field}
use Rattle.definitions.specs.AnswerRecord.{Answer, answer_size, answer_bytes, written}
use Rattle.definitions.specs.Solved.{Found, Answers, Giving}

-- Each call is a move from a desk to the next (`Opens`, `TakesIn`, `Steps`, `Collects`) with what it answers (`Opening`, `TakenIn`, `Stepped`,
-- `Collected`).

-- ---- the state of the machine

-- A place is empty, or holds a problem (the record that its bytes mean) with its ticket: one that waits after so many trials of its own, or
-- one that is answered, with class, span and own trials, and its answer.
pub data Place : Type 0 where
  empty : Place
  waits : (ticket : ℕ) (problem : List ℕ) (own : ℕ) → Place
  answered : (ticket : ℕ) (problem : List ℕ) (class : ℕ) (span : Trop) (own : ℕ) (answer : Answer) → Place

-- The desk: the tickets given out since the opening (so the last ticket), the line, as the numbers of the places in it, head first, and the
-- places.
pub record Desk : Type 0 where
  pub given : ℕ
  pub line : List ℕ
  pub places : List Place

-- An opening: no ticket given, nobody waits, sixteen empty places.
abbrev pub opened : Desk
opened = record { given = 0; line = []; places = replicate desk_places empty }

-- What stands at the place with this number; there is nothing past the last place.
abbrev pub place_at : Desk → ℕ → Place
place_at d i = get_or d.places i empty

-- This stands at this place of the desk.
pub record Stands (d : Desk) (i : ℕ) (p : Place) : Type 0 where
  pub is : place_at d i ≡ p

-- The ticket that a place holds, 0 where it is empty.
unfoldable pub ticket_of : Place → ℕ
ticket_of empty = 0
ticket_of (waits ticket problem own) = ticket
ticket_of (answered ticket problem class span own answer) = ticket

-- The first empty place.
pub record FirstEmpty (d : Desk) (i : ℕ) : Type 0 where
  pub inside : i < desk_places
  pub is_empty : place_at d i ≡ empty
  pub before : (k : ℕ) → k < i → place_at d k ≡ empty → ⊥

-- How many places hold a waiting or uncollected problem.
unfoldable pub held : List Place → ℕ
held [] = 0
held (p ∷ places) = cond (eqb (ticket_of p) 0) 0 1 + held places

-- ---- refusals

-- 23, looked at first in every call: the memory is shorter than 16 problems of 16,394 bytes.
abbrev pub memory_refused : ℕ → Clause
memory_refused memory = record { applies = ltb memory desk_memory; number = refused_memory }

-- 21: all 16 places hold a waiting or uncollected problem, or the tickets are used up.
abbrev pub full_refused : Desk → List Clause
full_refused d =
    record { applies = leb desk_places (held d.places); number = refused_full }
    ∷ record { applies = leb last_ticket d.given; number = refused_full }
    ∷ []

-- ---- opening

pub data Opening : Type 0 where
  refused : ℕ → Opening
  ready : Opening

-- With a memory of so many bytes; what the memory holds does not matter. A refused opening opens nothing: nothing is said of the state then.
pub data Opens (memory : ℕ) : Opening → Desk → Type 0 where
  turned_away : {k : ℕ} {d : Desk} → first (memory_refused memory ∷ []) ≡ suc k → Opens memory (refused (suc k)) d
  opens : first (memory_refused memory ∷ []) ≡ 0 → Opens memory ready opened

-- ---- taking in

-- What taking in answers: refused with the number, or the ticket.
pub data TakenIn : Type 0 where
  refused : ℕ → TakenIn
  ticket : ℕ → TakenIn

-- The desk's refusal, 0 for none, of the record that a problem's bytes mean, and a record that it takes: of kind 1, within the layout.
abbrev pub desk_refusal : List ℕ → ℕ
desk_refusal s = refusal_for desk_kinds s

abbrev pub WithinDesk : List ℕ → Type 0
WithinDesk s = desk_refusal s ≡ 0

-- 23, then the problem's refusals, then 21. The desk knows no kind but 1, and takes the empty problem too.
unfoldable pub take_refusal : ℕ → Desk → List ℕ → ℕ
take_refusal memory d p = or_else (first (memory_refused memory ∷ [])) (or_else (desk_refusal (meant p)) (first (full_refused d)))

-- A refused problem changes nothing. Another gets the next ticket and the first empty place, and goes to the end of the line.
pub data TakesIn (memory : ℕ) (d : Desk) (p : List ℕ) : TakenIn → Desk → Type 0 where
  turned_away : {k : ℕ} → take_refusal memory d p ≡ suc k → TakesIn memory d p (refused (suc k)) d
  taken :
      {i : ℕ} → take_refusal memory d p ≡ 0 → FirstEmpty d i
      → TakesIn memory d p (ticket (suc d.given))
      (record { given = suc d.given; line = d.line ++ (i ∷ []); places = set d.places i (waits (suc d.given) (meant p) 0) })

-- ---- a step

-- What a step answers: refused; none waits; or the ticket that had its trial, which goes on waiting, or is answered now.
pub data Stepped : Type 0 where
  refused : ℕ → Stepped
  none_waits : Stepped
  goes_on : ℕ → Stepped
  done : ℕ → Stepped

-- A step makes the next trial of the problem at the head of the line; the machine counts it, and which t is tried is the engine's (`OneTrial` there).
-- The problem's class and span give how many
-- trials it takes (1 for none, 2 for bottomless, 2 + the halvings for least): at the last of them it is answered and leaves the line, at
-- another it goes to the end of the line. The answer stands in the relation `Gives` with the problem. The other places stay as they are.
pub data Steps (Gives : Giving) (memory : ℕ) (d : Desk) : Stepped → Desk → Type 0 where
  turned_away : {k : ℕ} → first (memory_refused memory ∷ []) ≡ suc k → Steps Gives memory d (refused (suc k)) d
  idle : first (memory_refused memory ∷ []) ≡ 0 → d.line ≡ [] → Steps Gives memory d none_waits d
  one_more :
      {i number own class trials : ℕ} {span : Trop} {problem rest : List ℕ} → first (memory_refused memory ∷ []) ≡ 0
      → d.line ≡ i ∷ rest → Stands d i (waits number problem own)
      → Found (problem_of problem) class span trials → suc own < trials
      → Steps Gives memory d (goes_on number)
      (record { given = d.given; line = rest ++ (i ∷ []); places = set d.places i (waits number problem (suc own)) })
  last_one :
      {i number own class trials : ℕ} {span : Trop} {problem rest : List ℕ} {a : Answer} → first (memory_refused memory ∷ []) ≡ 0
      → d.line ≡ i ∷ rest → Stands d i (waits number problem own)
      → suc own ≡ trials → Answers (problem_of problem) class span trials a → Gives problem a
      → Steps Gives memory d (done number)
      (record { given = d.given; line = rest; places = set d.places i (answered number problem class span trials a) })

-- ---- collecting

-- What collecting answers: refused; the ticket still waits; or class, span, own trials and the record's size.
pub data Collected : Type 0 where
  refused : ℕ → Collected
  still_waits : Collected
  collected : (class : ℕ) (span : Trop) (own size : ℕ) → Collected

-- No place holds the ticket.
abbrev pub NotHeld : Desk → ℕ → Type 0
NotHeld d number = (i : ℕ) → (place_at d i ≡ empty → ⊥) → ticket_of (place_at d i) ≡ number → ⊥

-- 23, then 22, then the word that the ticket still waits, then 7, after which the answer can still be collected. The record is written at
-- the buffer's start, bytes after it stay, and the place is empty again.
pub data Collects (memory : ℕ) (d : Desk) (number : ℕ) (buffer : List ℕ) : Collected → Desk → List ℕ → Type 0 where
  turned_away : {k : ℕ} → first (memory_refused memory ∷ []) ≡ suc k → Collects memory d number buffer (refused (suc k)) d buffer
  no_such_ticket :
      first (memory_refused memory ∷ []) ≡ 0 → NotHeld d number → Collects memory d number buffer (refused refused_ticket) d buffer
  waits_yet :
      {i own : ℕ} {problem : List ℕ} → first (memory_refused memory ∷ []) ≡ 0 → Stands d i (waits number problem own)
      → Collects memory d number buffer still_waits d buffer
  short_buffer :
      {i class own : ℕ} {span : Trop} {problem : List ℕ} {a : Answer} → first (memory_refused memory ∷ []) ≡ 0
      → Stands d i (answered number problem class span own a) → length buffer < answer_most
      → Collects memory d number buffer (refused refused_room) d buffer
  handed_over :
      {i class own : ℕ} {span : Trop} {problem : List ℕ} {a : Answer} → first (memory_refused memory ∷ []) ≡ 0
      → Stands d i (answered number problem class span own a) → answer_most ≤ length buffer
      → Collects memory d number buffer (collected class span own (answer_size class (n_field problem) (m_field problem)))
      (record { given = d.given; line = d.line; places = set d.places i empty })
      (written buffer (answer_bytes (n_field problem) a))

-- ---- sequences

-- Every sequence of takings-in, steps and collections that leads from one state to another, with a memory of so many bytes; the number counts
-- its steps, also those with none waiting.
pub data Run (Gives : Giving) (memory : ℕ) : Desk → ℕ → Desk → Type 0 where
  nothing : {d : Desk} → Run Gives memory d 0 d
  take_in : {d e f : Desk} {k : ℕ} {p : List ℕ} {r : TakenIn} → Run Gives memory d k e → TakesIn memory e p r f → Run Gives memory d k f
  one_step_is : {d e f : Desk} {k : ℕ} {r : Stepped} → Run Gives memory d k e → Steps Gives memory e r f → Run Gives memory d (suc k) f
  collect :
      {d e f : Desk} {k number : ℕ} {before after : List ℕ} {r : Collected} → Run Gives memory d k e → Collects memory e number before r f after
      → Run Gives memory d k f

-- A state that some sequence of calls leads to from an opening on; with a memory that is too short only the opened state is one.
pub record FromOpening (Gives : Giving) (memory : ℕ) (d : Desk) : Type 0 where
  pub steps : ℕ
  pub run : Run Gives memory opened steps d
