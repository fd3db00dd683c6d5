-- The desk as its caller sees it: what document 02, 2.11 says of the code's calls, one after another since an opening (`SinceOpening`).
use Rattle.std.specs.Prelude.{ℕ, suc, ◌+◌, ◌≤◌, ◌<◌, ◌≡◌, cond, ◌⊎◌, List, [], ◌∷◌, ◌++◌, eqb, length, Result, Ok}
use Rattle.definitions.specs.Limits.{most_trials, desk_steps, answer_most, refused_room, refused_ticket}
use Rattle.definitions.specs.Tropical.{Trop}
use Rattle.definitions.specs.ProblemRecord.{problem_of, meant, n_field, m_field}
use Rattle.definitions.specs.AnswerRecord.{Answer, answer_size, answer_bytes, written}
use Rattle.definitions.specs.Solved.{Found, answered}
use Rattle.definitions.specs.Verdict.{accepted}
use Rattle.definitions.specs.Demands.{Slice, Checker}
use Rattle.definitions.specs.Desk.{opened}
use Rattle.records.specs.declared.refusal.Refusal.{Refusal}
use Rattle.engine.specs.declared.solve.Solution.{Solution}
use Rattle.engine.specs.declared.one_trial.Pending.{Pending}
use Rattle.engine.specs.OneTrial.{PendingFor, BegunFor, TrialFor}
use Rattle.engine.specs.Outcome.{solved_of, Gives, SolvedAs}
use Rattle.lent_desk.specs.Entries.{AsLent, done_number, handed_number}
use Rattle.lent_desk.specs.Sequence.{Seen, took_in, stepped, collected, SinceOpening, AsRun}

-- ---- what a caller counts

unfoldable pub sum : (Seen → ℕ) → List Seen → ℕ
sum f [] = 0
sum f (x ∷ seen) = f x + sum f seen

-- Steps, also those with none waiting.
unfoldable pub one_step : Seen → ℕ
one_step (took_in p number told) = 0
one_step (stepped number told) = 1
one_step (collected ticket before number after) = 0

-- Trials of a ticket: the steps that tell it. One that gives 0 tells none.
unfoldable pub one_trial : ℕ → Seen → ℕ
one_trial ticket (took_in p number told) = 0
one_trial ticket (stepped number told) = cond (eqb number 0) 0 (cond (eqb told ticket) 1 0)
one_trial ticket (collected other before number after) = 0

-- Tickets given out: the takings-in that gave 0.
unfoldable pub one_ticket : Seen → ℕ
one_ticket (took_in p number told) = cond (eqb number 0) 1 0
one_ticket (stepped number told) = 0
one_ticket (collected ticket before number after) = 0

-- Some call does this.
unfoldable pub Some : (Seen → Type 0) → List Seen → Type 0
Some P [] = ⊥
Some P (x ∷ seen) = P x ⊎ Some P seen

-- A step reports the ticket as answered now.
abbrev pub ReportsDone : ℕ → Seen → Type 0
ReportsDone ticket x = x ≡ stepped done_number ticket

-- A collection hands its answer over: a number of 256 or more comes back, others hand nothing over.
unfoldable pub HandsOver : ℕ → Seen → Type 0
HandsOver ticket (took_in p number told) = ⊥
HandsOver ticket (stepped number told) = ⊥
HandsOver ticket (collected other before number after) = (other ≡ ticket) × (256 ≤ number)

-- ---- a problem on the desk

-- It was taken in with this ticket: calls since an opening, those before it and those after it.
pub record TakenWith (p : List ℕ) (ticket : ℕ) (earlier later : List Seen) : Type 0 where
  pub calls : SinceOpening (earlier ++ (took_in p 0 ticket ∷ later))

-- And after some calls a second problem, with the ticket `other`.
pub record TakenBoth (p : List ℕ) (ticket : ℕ) (q : List ℕ) (other : ℕ) : Type 0 where
  pub earlier : List Seen
  pub between : List Seen
  pub later : List Seen
  pub taken : TakenWith p ticket earlier (between ++ (took_in q 0 other ∷ later))

-- Or after some calls its ticket was collected: this number came back, and the buffer was and is this.
pub record Collecting (p : List ℕ) (ticket : ℕ) (between : List Seen) (before : List ℕ) (number : ℕ) (after : List ℕ) : Type 0 where
  pub earlier : List Seen
  pub later : List Seen
  pub taken : TakenWith p ticket earlier (between ++ (collected ticket before number after ∷ later))

-- With its answer.
pub record CollectedWith (p : List ℕ) (ticket : ℕ) (before : List ℕ) (number : ℕ) (after : List ℕ) : Type 0 where
  pub between : List Seen
  pub collecting : Collecting p ticket between before number after
  pub handed : 256 ≤ number

-- What was handed over for the bytes p: class, least span and own trials of the problem, and the answer that the engine gives for it alone, as a record
-- at the buffer's start. The checker, handed p and these bytes, accepts them; and `solve`, handed p and any buffer of 208 bytes or more, gives the
-- same class, span and trials and writes the same bytes.
pub record HandedOver (check : Checker) (p before : List ℕ) (number : ℕ) (after : List ℕ) : Type 0 where
  pub class : ℕ
  pub span : Trop
  pub own : ℕ
  pub answer : Answer
  pub bytes : List ℕ
  pub number_is : number ≡ handed_number class own
  pub few : own ≤ most_trials
  pub found : Found (problem_of (meant p)) class span own
  pub gives : Gives (meant p) answer
  pub bytes_are : bytes ≡ answer_bytes (n_field (meant p)) answer
  pub size_is : length bytes ≡ answer_size class (n_field (meant p)) (m_field (meant p))
  pub buffer_is : after ≡ written before bytes
  pub accepted_is : Slice p → check p bytes ≡ accepted class span
  pub solve_writes :
      {buffer solved : List ℕ} {r : Result Solution Refusal} → answer_most ≤ length buffer → SolvedAs (meant p) buffer r solved
      → (solved_of r ≡ answered class span own (length bytes)) × (solved ≡ written buffer bytes)

-- ---- the laws

pub record DeskCalls (check : Checker) : Type 0 where
  -- "Each call gets memory and state as the call before left them": what a further call asks for holds;
  pub next_call : {seen : List Seen} (s : SinceOpening seen) → AsLent s.memory_now s.words_now
  -- "for every sequence of takings-in, steps and collections from an opening on": it is a run of the machine, with the same reports.
  pub as_run : {seen : List Seen} (s : SinceOpening seen) → AsRun (length s.memory) opened seen s.memory_now s.words_now
  -- "A problem is answered within 24 trials of its own": the steps since it was taken in that tell its ticket,
  pub own_trials : {p : List ℕ} {ticket : ℕ} {earlier later : List Seen} → TakenWith p ticket earlier later → sum (one_trial ticket) later ≤ most_trials
  -- "and at most 384 steps after it was taken in": of so many one reported it;
  pub within_steps :
      {p : List ℕ} {ticket : ℕ} {earlier later : List Seen} → TakenWith p ticket earlier later → desk_steps ≤ sum one_step later
      → Some (ReportsDone ticket) later
  -- "tickets count up from 1 at each opening": each is one more than the tickets given out before,
  pub next_ticket : {p : List ℕ} {ticket : ℕ} {earlier later : List Seen} → TakenWith p ticket earlier later → ticket ≡ suc (sum one_ticket earlier)
  -- "and never come twice before the next": a later one is greater;
  pub never_twice : {p q : List ℕ} {ticket other : ℕ} → TakenBoth p ticket q other → ticket < other
  -- "collecting a ticket that still waits says so and changes nothing": 0, until a step reported it;
  pub waits_so :
      {p before after : List ℕ} {ticket number : ℕ} {between : List Seen} → Collecting p ticket between before number after
      → (Some (ReportsDone ticket) between → ⊥) → (number ≡ 0) × (after ≡ before)
  -- then 7 where the buffer is short, "after which the answer can still be collected", and with 208 bytes or more the answer, unless it was handed
  -- over before;
  pub short_so :
      {p before after : List ℕ} {ticket number : ℕ} {between : List Seen} → Collecting p ticket between before number after
      → Some (ReportsDone ticket) between → length before < answer_most
      → Some (HandsOver ticket) between ⊎ ((number ≡ refused_room) × (after ≡ before))
  pub handed_so :
      {p before after : List ℕ} {ticket number : ℕ} {between : List Seen} → Collecting p ticket between before number after
      → Some (ReportsDone ticket) between → answer_most ≤ length before → Some (HandsOver ticket) between ⊎ (256 ≤ number)
  -- and 22 after that, "no such ticket is held";
  pub gone_so :
      {p before after : List ℕ} {ticket number : ℕ} {between : List Seen} → Collecting p ticket between before number after
      → Some (HandsOver ticket) between → (number ≡ refused_ticket) × (after ≡ before)
  -- "and the checker accepts it": what is handed over is as `HandedOver` says;
  pub handed_over :
      {p before after : List ℕ} {ticket number : ℕ} → CollectedWith p ticket before number after → HandedOver check p before number after
  -- "a problem's answer does not depend on the others": of the same bytes, in whatever two sequences, the same answer is collected.
  pub same_answer :
      {p before after before' after' : List ℕ} {ticket other number number' : ℕ} (c : CollectedWith p ticket before number after)
      (d : CollectedWith p other before' number' after') → (number ≡ number') × ((handed_over c).bytes ≡ (handed_over d).bytes)

-- ---- the engine that the desk calls

-- `engine::one_trial::begin` and `one_trial` as functions; and the problems under way that they lead to from the bytes p.
pub record TrialCalls : Type 0 where
  pub begin : List ℕ → Result Pending Refusal
  pub trial : List ℕ → Pending → Pending

pub data LeadTo (calls : TrialCalls) (p : List ℕ) : Pending → Type 0 where
  begun : {q : Pending} → calls.begin p ≡ Ok q → LeadTo calls p q
  tried : {q : Pending} → LeadTo calls p q → LeadTo calls p (calls.trial p q)

-- Their contracts, for whatever can be handed over.
pub record TrialsMeet (calls : TrialCalls) : Type 0 where
  pub begins : (p : List ℕ) → Slice p → BegunFor (meant p) (calls.begin p)
  pub tries : (p : List ℕ) (q : Pending) → Slice p → LeadTo calls p q → PendingFor (meant p) q → TrialFor (meant p) q (calls.trial p q)
