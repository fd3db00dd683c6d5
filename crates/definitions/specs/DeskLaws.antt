-- The laws of the desk: what is proved of every sequence of its calls, that each call has an answer, and one, and that the checker accepts what is
-- collected. Document 02, 2.11.
use Rattle.std.specs.Prelude.{ℕ, suc, ◌+◌, ◌*◌, ◌≤◌, ◌<◌, ◌≡◌, cond, ◌⊎◌, List, [], ◌∷◌, eqb, length, take}
use Rattle.definitions.specs.Limits.{most_trials, desk_places, desk_memory, desk_steps, last_ticket, answer_most, refused_room, refused_ticket, refused_memory}
use Rattle.definitions.specs.Tropical.{Trop}
use Rattle.definitions.specs.Bytes.{first}
use Rattle.definitions.specs.ProblemRecord.{problem_of, meant, n_field, m_field}
use Rattle.definitions.specs.AnswerRecord.{Answer, answer_size, answer_bytes, written}
use Rattle.definitions.specs.Solved.{Found, Answers, Giving, OneValued}
use Rattle.definitions.specs.Verdict.{accepted}
use Rattle.definitions.specs.Demands.{Slice, Checker}
use Rattle.definitions.specs.Desk.{Collected, Collects, Desk, FromOpening, NotHeld, Opening, Opens, Run, Stands, Stepped, Steps, TakenIn, TakesIn, WithinDesk, answered, collect, collected, done, empty, full_refused, goes_on, memory_refused, none_waits, nothing, one_step_is, opened, place_at, ready, refused, still_waits, take_in, ticket, ticket_of, waits}

-- ---- what is proved of every sequence

-- Some step of the sequence reported that the ticket is answered now.
unfoldable pub Reported : (number : ℕ) {Gives : Giving} {memory k : ℕ} {d e : Desk} → Run Gives memory d k e → Type 0
Reported number nothing = ⊥
Reported number (take_in run t) = Reported number run
Reported number (one_step_is {r = r} run s) = Reported number run ⊎ (r ≡ done number)
Reported number (collect run c) = Reported number run

-- A collection of ticket n with this answer hands over the answer of ticket `number`.
unfoldable pub HandsOver : (number n : ℕ) → Collected → Type 0
HandsOver number n (refused k) = ⊥
HandsOver number n still_waits = ⊥
HandsOver number n (collected class span own size) = n ≡ number

-- Some collection of the sequence did.
unfoldable pub HandedOver : (number : ℕ) {Gives : Giving} {memory k : ℕ} {d e : Desk} → Run Gives memory d k e → Type 0
HandedOver number nothing = ⊥
HandedOver number (take_in run t) = HandedOver number run
HandedOver number (one_step_is run s) = HandedOver number run
HandedOver number (collect {number = n} {r = r} run c) = HandedOver number run ⊎ HandsOver number n r

-- The trials that a step's answer tells of the ticket, one or none, and those of a sequence.
unfoldable pub turn : ℕ → Stepped → ℕ
turn number (refused k) = 0
turn number none_waits = 0
turn number (goes_on n) = cond (eqb n number) 1 0
turn number (done n) = cond (eqb n number) 1 0

unfoldable pub turns : (number : ℕ) {Gives : Giving} {memory k : ℕ} {d e : Desk} → Run Gives memory d k e → ℕ
turns number nothing = 0
turns number (take_in run t) = turns number run
turns number (one_step_is {r = r} run s) = turns number run + turn number r
turns number (collect run c) = turns number run

-- A place holds the problem with its ticket, waiting or answered.
pub record HeldWaiting (d : Desk) (number : ℕ) (problem : List ℕ) : Type 0 where
  pub place : ℕ
  pub own : ℕ
  pub there : Stands d place (waits number problem own)

pub record HeldAnswered (d : Desk) (number : ℕ) (problem : List ℕ) : Type 0 where
  pub place : ℕ
  pub class : ℕ
  pub span : Trop
  pub own : ℕ
  pub answer : Answer
  pub there : Stands d place (answered number problem class span own answer)

-- A step's answer tells a ticket that waits.
unfoldable pub TellsWaiting : Desk → Stepped → Type 0
TellsWaiting d (refused k) = ⊥
TellsWaiting d none_waits = ⊥
TellsWaiting d (goes_on number) = (problem : List ℕ) × HeldWaiting d number problem
TellsWaiting d (done number) = (problem : List ℕ) × HeldWaiting d number problem

-- No place holds a problem that waits.
abbrev pub NoneWaiting : Desk → Type 0
NoneWaiting d = (i number own : ℕ) (problem : List ℕ) → Stands d i (waits number problem own) → ⊥

-- "For every sequence of takings-in, steps and collections from an opening on"; a field without `FromOpening` holds from every state.
pub record DeskHolds (Gives : Giving) : Type 0 where
  -- "a problem is answered within 24 trials of its own": one that waits has made fewer, one that is answered at most so many,
  pub own_trials :
      {memory : ℕ} {d : Desk} → FromOpening Gives memory d → {i number own : ℕ} {problem : List ℕ} → Stands d i (waits number problem own)
      → own < most_trials
  pub trials_of_answered :
      {memory : ℕ} {d : Desk} → FromOpening Gives memory d → {i number class own : ℕ} {span : Trop} {problem : List ℕ} {a : Answer}
      → Stands d i (answered number problem class span own a) → own ≤ most_trials
  -- and these are the steps since it was taken in that told its ticket, as going on or as answered,
  pub own_waiting :
      {memory : ℕ} {d e f : Desk} {p : List ℕ} {number k : ℕ} → FromOpening Gives memory d → TakesIn memory d p (ticket number) e
      → (run : Run Gives memory e k f) → {i own : ℕ} {problem : List ℕ} → Stands f i (waits number problem own) → turns number run ≡ own
  pub own_answered :
      {memory : ℕ} {d e f : Desk} {p : List ℕ} {number k : ℕ} → FromOpening Gives memory d → TakesIn memory d p (ticket number) e
      → (run : Run Gives memory e k f) → {i class own : ℕ} {span : Trop} {problem : List ℕ} {a : Answer}
      → Stands f i (answered number problem class span own a) → turns number run ≡ own
  -- "and at most 384 steps after it was taken in": of so many steps one reported it as answered;
  pub steps_after :
      {memory : ℕ} {d e f : Desk} {p : List ℕ} {number k : ℕ} → FromOpening Gives memory d → TakesIn memory d p (ticket number) e
      → (run : Run Gives memory e k f) → desk_steps ≤ k → Reported number run
  -- "short problems answered while long ones run": of 16 steps for each trial that it takes, one did;
  pub steps_by_trials :
      {memory : ℕ} {d e f : Desk} {p : List ℕ} {number k class trials : ℕ} {span : Trop} → FromOpening Gives memory d
      → TakesIn memory d p (ticket number) e → Found (problem_of (meant p)) class span trials → (run : Run Gives memory e k f) → desk_places * trials ≤ k
      → Reported number run
  -- until then it is held, waiting; and what waits or is answered with a ticket is the problem that got the ticket;
  pub held_until_reported :
      {memory : ℕ} {d e f : Desk} {p : List ℕ} {number k : ℕ} → FromOpening Gives memory d → TakesIn memory d p (ticket number) e
      → (run : Run Gives memory e k f) → Reported number run ⊎ HeldWaiting f number (meant p)
  pub ticket_waits :
      {memory : ℕ} {d e f : Desk} {p : List ℕ} {number k : ℕ} → FromOpening Gives memory d → TakesIn memory d p (ticket number) e
      → Run Gives memory e k f → {i own : ℕ} {problem : List ℕ} → Stands f i (waits number problem own) → problem ≡ meant p
  pub ticket_answered :
      {memory : ℕ} {d e f : Desk} {p : List ℕ} {number k : ℕ} → FromOpening Gives memory d → TakesIn memory d p (ticket number) e
      → Run Gives memory e k f → {i class own : ℕ} {span : Trop} {problem : List ℕ} {a : Answer}
      → Stands f i (answered number problem class span own a) → problem ≡ meant p
  -- the answer is one that the engine may give, and gives, for that problem alone, which is one that the desk takes;
  pub answers_alone :
      {memory : ℕ} {d : Desk} → FromOpening Gives memory d → {i number class own : ℕ} {span : Trop} {problem : List ℕ} {a : Answer}
      → Stands d i (answered number problem class span own a) → WithinDesk problem × Answers (problem_of problem) class span own a × Gives problem a
  -- "a problem's answer does not depend on the others": over two sequences the same problem has the same class, span and own trials, and the same
  -- answer, as the engine gives one for a problem;
  pub independent :
      {memory other : ℕ} {d e : Desk} → FromOpening Gives memory d → FromOpening Gives other e
      → {problem : List ℕ} {i k x y c z own trials : ℕ} {s t : Trop} {a b : Answer} → Stands d i (answered x problem c s own a)
      → Stands e k (answered y problem z t trials b) → (c ≡ z) × (s ≡ t) × (own ≡ trials) × (OneValued Gives → a ≡ b)
  -- 23, "looked at first in every call", where the memory is too short; it changes nothing;
  pub short_taking : {memory : ℕ} {d e : Desk} {p : List ℕ} {r : TakenIn} → memory < desk_memory → TakesIn memory d p r e → (r ≡ refused refused_memory) × (e ≡ d)
  pub short_step : {memory : ℕ} {d e : Desk} {r : Stepped} → memory < desk_memory → Steps Gives memory d r e → (r ≡ refused refused_memory) × (e ≡ d)
  pub short_collecting :
      {memory number : ℕ} {d e : Desk} {before after : List ℕ} {r : Collected} → memory < desk_memory → Collects memory d number before r e after
      → (r ≡ refused refused_memory) × (e ≡ d) × (after ≡ before)
  -- where somebody waits, a step tells a ticket that waits;
  pub busy_tells :
      {memory i number own : ℕ} {d e : Desk} {problem : List ℕ} {r : Stepped} → FromOpening Gives memory d → first (memory_refused memory ∷ []) ≡ 0
      → Stands d i (waits number problem own) → Steps Gives memory d r e → TellsWaiting d r
  -- "collecting a ticket that still waits says so and changes nothing, as does a step with none waiting", where the memory is long enough;
  pub waiting_says_so :
      {memory number i own : ℕ} {problem : List ℕ} {d e : Desk} {before after : List ℕ} {r : Collected} → FromOpening Gives memory d
      → first (memory_refused memory ∷ []) ≡ 0 → Stands d i (waits number problem own) → Collects memory d number before r e after
      → (r ≡ still_waits) × (e ≡ d) × (after ≡ before)
  pub idle_says_so :
      {memory : ℕ} {d e : Desk} {r : Stepped} → first (memory_refused memory ∷ []) ≡ 0 → NoneWaiting d → Steps Gives memory d r e
      → (r ≡ none_waits) × (e ≡ d)
  -- collecting a ticket that is not held gets 22, one that is answered its answer, or 7 where the buffer is short; 22 and 7 change nothing, so
  -- that the answer can still be collected;
  pub unheld_says_so :
      {memory number : ℕ} {d e : Desk} {before after : List ℕ} {r : Collected} → FromOpening Gives memory d → first (memory_refused memory ∷ []) ≡ 0
      → NotHeld d number → Collects memory d number before r e after → (r ≡ refused refused_ticket) × (e ≡ d) × (after ≡ before)
  pub answered_handed :
      {memory number i class own : ℕ} {span : Trop} {problem : List ℕ} {a : Answer} {d e : Desk} {before after : List ℕ} {r : Collected}
      → FromOpening Gives memory d → first (memory_refused memory ∷ []) ≡ 0 → Stands d i (answered number problem class span own a)
      → answer_most ≤ length before → Collects memory d number before r e after
      → (r ≡ collected class span own (answer_size class (n_field problem) (m_field problem))) × (after ≡ written before (answer_bytes (n_field problem) a))
  pub short_says_so :
      {memory number i class own : ℕ} {span : Trop} {problem : List ℕ} {a : Answer} {d e : Desk} {before after : List ℕ} {r : Collected}
      → FromOpening Gives memory d → first (memory_refused memory ∷ []) ≡ 0 → Stands d i (answered number problem class span own a)
      → length before < answer_most → Collects memory d number before r e after → (r ≡ refused refused_room) × (e ≡ d) × (after ≡ before)
  -- where the memory is long enough, a place is empty and a ticket is left, a problem that the desk takes gets the next ticket; and "a collected
  -- place is usable again": right after a collection 21 applies only where the tickets are used up;
  pub room_taken :
      {memory i : ℕ} {d e : Desk} {p : List ℕ} {r : TakenIn} → FromOpening Gives memory d → first (memory_refused memory ∷ []) ≡ 0
      → WithinDesk (meant p) → i < desk_places → place_at d i ≡ empty → d.given < last_ticket → TakesIn memory d p r e
      → r ≡ ticket (suc d.given)
  pub usable_again :
      {memory number class own size : ℕ} {span : Trop} {d e : Desk} {before after : List ℕ} → FromOpening Gives memory d
      → Collects memory d number before (collected class span own size) e after → e.given < last_ticket → first (full_refused e) ≡ 0
  -- no answer is lost: once it was reported the problem is held, answered, until its answer is handed over, and that answer stays as it is;
  pub reported_held :
      {memory : ℕ} {d e f : Desk} {p : List ℕ} {number k : ℕ} → FromOpening Gives memory d → TakesIn memory d p (ticket number) e
      → (run : Run Gives memory e k f) → Reported number run → HandedOver number run ⊎ HeldAnswered f number (meant p)
  pub kept_until_handed :
      {memory : ℕ} {d e : Desk} {i number class own k : ℕ} {span : Trop} {problem : List ℕ} {a : Answer}
      → Stands d i (answered number problem class span own a) → (run : Run Gives memory d k e)
      → HandedOver number run ⊎ Stands e i (answered number problem class span own a)
  -- "tickets count up from 1 at each opening, in 64 bits": the first is 1, each is the one after the last given out, no other call gives one
  -- out, and none is above 2⁶⁴ − 1;
  pub first_ticket : {memory : ℕ} {e : Desk} {p : List ℕ} {number : ℕ} → TakesIn memory opened p (ticket number) e → number ≡ 1
  pub tickets_count :
      {memory : ℕ} {d e : Desk} {p : List ℕ} {number : ℕ} → TakesIn memory d p (ticket number) e
      → (number ≡ suc d.given) × (e.given ≡ number) × (number ≤ last_ticket)
  pub steps_give_none : {memory : ℕ} {d e : Desk} {r : Stepped} → Steps Gives memory d r e → e.given ≡ d.given
  pub collecting_gives_none :
      {memory number : ℕ} {d e : Desk} {before after : List ℕ} {r : Collected} → Collects memory d number before r e after → e.given ≡ d.given
  -- nor does a refused taking-in; no refusal changes anything, and every ticket that is held was given out;
  pub refused_still :
      {memory k : ℕ} {d e : Desk} {p : List ℕ} → TakesIn memory d p (refused k) e → e ≡ d
  pub refused_step : {memory k : ℕ} {d e : Desk} → Steps Gives memory d (refused k) e → e ≡ d
  pub refused_collecting :
      {memory number k : ℕ} {d e : Desk} {before after : List ℕ} → Collects memory d number before (refused k) e after → (e ≡ d) × (after ≡ before)
  pub held_given :
      {memory : ℕ} {d : Desk} → FromOpening Gives memory d → (i : ℕ) → (place_at d i ≡ empty → ⊥)
      → (0 < ticket_of (place_at d i)) × (ticket_of (place_at d i) ≤ d.given)
  -- no two places hold the same ticket, and after its collection one is never held again, so that it gets 22 (and is given out no more, below);
  pub tickets_apart :
      {memory : ℕ} {d : Desk} → FromOpening Gives memory d → (i k : ℕ) → (place_at d i ≡ empty → ⊥) → (place_at d k ≡ empty → ⊥)
      → ticket_of (place_at d i) ≡ ticket_of (place_at d k) → i ≡ k
  pub collected_once :
      {memory number class own size k : ℕ} {span : Trop} {d e f : Desk} {before after : List ℕ} → FromOpening Gives memory d
      → Collects memory d number before (collected class span own size) e after → Run Gives memory e k f → NotHeld f number
  -- they "never come twice before the next" opening.
  pub tickets_rise :
      {memory : ℕ} {d e f g : Desk} {p q : List ℕ} {number later k : ℕ} → TakesIn memory d p (ticket number) e → Run Gives memory e k f
      → TakesIn memory f q (ticket later) g → number < later

-- ---- no call is stuck

-- Some answer of a call, and what it leaves.
pub record SomeOpening (memory : ℕ) : Type 0 where
  pub result : Opening
  pub next : Desk
  pub moves : Opens memory result next

pub record SomeTaking (memory : ℕ) (d : Desk) (p : List ℕ) : Type 0 where
  pub result : TakenIn
  pub next : Desk
  pub moves : TakesIn memory d p result next

pub record SomeStep (Gives : Giving) (memory : ℕ) (d : Desk) : Type 0 where
  pub result : Stepped
  pub next : Desk
  pub moves : Steps Gives memory d result next

pub record SomeCollecting (memory : ℕ) (d : Desk) (number : ℕ) (buffer : List ℕ) : Type 0 where
  pub result : Collected
  pub next : Desk
  pub after : List ℕ
  pub moves : Collects memory d number buffer result next after

-- Some answer that the engine may give for the problem, and gives.
pub record SomeGiven (Gives : Giving) (p : List ℕ) : Type 0 where
  pub class : ℕ
  pub span : Trop
  pub trials : ℕ
  pub answer : Answer
  pub answers : Answers (problem_of p) class span trials answer
  pub gives : Gives p answer

-- From every state that calls lead to from an opening on, each call has an answer; a step, where the engine gives one for every problem that
-- the desk takes.
pub record NeverStuck (Gives : Giving) : Type 0 where
  pub opening : (memory : ℕ) → SomeOpening memory
  pub taking_in : {memory : ℕ} {d : Desk} → FromOpening Gives memory d → (p : List ℕ) → SomeTaking memory d p
  pub stepping :
      {memory : ℕ} {d : Desk} → ((p : List ℕ) → WithinDesk p → SomeGiven Gives p) → FromOpening Gives memory d → SomeStep Gives memory d
  pub collecting : {memory : ℕ} {d : Desk} → FromOpening Gives memory d → (number : ℕ) (buffer : List ℕ) → SomeCollecting memory d number buffer

-- ---- each call has one answer

-- What a call answers is settled by what it gets, and so is what it leaves, but for what a refused opening leaves; that of a step, where the
-- engine gives one answer for a problem.
pub record OneOutcome (Gives : Giving) : Type 0 where
  pub opening : {memory : ℕ} {r q : Opening} {d e : Desk} → Opens memory r d → Opens memory q e → (r ≡ q) × (r ≡ ready → d ≡ e)
  pub taking_in :
      {memory : ℕ} {d e f : Desk} {p : List ℕ} {r q : TakenIn} → TakesIn memory d p r e → TakesIn memory d p q f → (r ≡ q) × (e ≡ f)
  pub stepping :
      {memory : ℕ} {d e f : Desk} {r q : Stepped} → OneValued Gives → Steps Gives memory d r e → Steps Gives memory d q f → (r ≡ q) × (e ≡ f)
  pub collecting :
      {memory number : ℕ} {d e f : Desk} {buffer after other : List ℕ} {r q : Collected} → FromOpening Gives memory d
      → Collects memory d number buffer r e after → Collects memory d number buffer q f other → (r ≡ q) × (e ≡ f) × (after ≡ other)

-- ---- the checker

-- The problem whose answer is collected, at its place before; the bytes are its answer's record, and the checker, handed the record that the problem's
-- bytes mean and the answer's, accepts it with the class and span that were given.
pub record CollectedRight (check : Checker) (d : Desk) (number class : ℕ) (span : Trop) (own : ℕ) (bytes : List ℕ) : Type 0 where
  pub place : ℕ
  pub problem : List ℕ
  pub answer : Answer
  pub there : Stands d place (answered number problem class span own answer)
  pub bytes_are : bytes ≡ answer_bytes (n_field problem) answer
  pub accepted_is : Slice problem → check problem bytes ≡ accepted class span

-- "And the checker accepts it": every record that is collected, from an opening on; and a problem that was taken in and is collected later,
-- handed to the checker as it was handed to the desk.
pub record CollectedAccepted (Gives : Giving) (check : Checker) : Type 0 where
  pub each :
      {memory number class own size : ℕ} {span : Trop} {d e : Desk} {before after : List ℕ} → FromOpening Gives memory d
      → Collects memory d number before (collected class span own size) e after → CollectedRight check d number class span own (take size after)
  pub taken_in :
      {memory number k class own size : ℕ} {span : Trop} {d e f g : Desk} {p before after : List ℕ} → FromOpening Gives memory d
      → TakesIn memory d p (ticket number) e → Run Gives memory e k f → Collects memory f number before (collected class span own size) g after
      → Slice p → check p (take size after) ≡ accepted class span
