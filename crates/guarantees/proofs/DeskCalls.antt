-- The laws of the desk hold of the code's calls, one after another since an opening.
use Prim.Native.Nat.{ℕ, zero, suc, ◌+◌, ◌≤◌, ◌<◌}
use mathlib.Core.Path.{◌≡◌, refl, sym, ap, ap₂, subst, ◌∙◌}
use mathlib.Core.Bool.{cond}
use mathlib.Core.Logic.{◌⊎◌, inl, inr, ⊎_elim}
use mathlib.Core.List.{List, [], ◌∷◌, ◌++◌, append_assoc}
use native.Mathlib.Omega.{arith}
use native.Mathlib.Decide.{ℕ_discrete}
use lib.Dec.{eqb}
use lib.ListN.{length}
use borrow.Author.Tests.{eq-eqb, ne_eqb}
use Rattle.definitions.specs.Limits.{most_trials, desk_steps, answer_most, refused_room, refused_ticket}
use Rattle.definitions.specs.Tropical.{Trop}
use Rattle.definitions.specs.Bytes.{first}
use Rattle.definitions.specs.ProblemRecord.{AsksOne, WithinLayout, problem_of, meant, n_field, m_field}
use Rattle.definitions.specs.AnswerRecord.{Answer, answer_size, answer_bytes, written}
use Rattle.definitions.specs.Solved as Results
use Rattle.definitions.specs.Solved.{Found, Solves, solved, all_solved, answered, engine_refusal}
use Rattle.definitions.specs.Demands.{Slice, Checker, CheckerJudges}
use Rattle.definitions.specs.Desk as Machine
use Rattle.definitions.specs.Desk.{Desk, Stands, FromOpening, WithinDesk, TakesIn, Steps, Collects, Run, nothing, take_in, one_step_is, collect, one_more, last_one, memory_refused, NotHeld}
use Rattle.definitions.specs.DeskLaws as Laws
use Rattle.definitions.specs.DeskLaws.{Reported, HeldWaiting, HeldAnswered, turn, turns, SomeGiven}
use Rattle.definitions.proofs.Layouts.{desk_within, problem_fits, within_asks}
use Rattle.definitions.proofs.RoundTrip.{answer_length}
use Rattle.definitions.proofs.Solved.{answer_takes, one_refused}
use Rattle.duality.proofs.Classes.{found_one}
use Rattle.duality.proofs.SmallLeads.{layout_within}
use Rattle.tickets.proofs.Reported.{from_run, run_on}
use Rattle.tickets.proofs.Holds.{desk_holds}
use Rattle.std.specs.Prelude.{Option, None, Result, Ok, Err}
use Rattle.records.specs.declared.class.Class.{Class}
use Rattle.records.specs.declared.refusal.Refusal.{Refusal}
use Rattle.records.specs.Refusals.{number_of}
use Rattle.records.proofs.Refusing.{number_range}
use Rattle.engine.specs.declared.one_trial.Pending.{Pending}
use Rattle.engine.specs.OneTrial.{PendingFor, AnsweredFor, Onward}
use Rattle.engine.specs.Outcome.{Gives, Writes}
use Rattle.engine.proofs.One.{gives_one}
use Rattle.desk.proofs.Taking.{memory_enough}
use Rattle.lent_desk.specs.Entries.{handed_number}
use Rattle.lent_desk.specs.Sequence.{Seen, took_in, collected, Calls, SinceOpening, collecting, SeenAs}
use Rattle.lent_desk.proofs.Sequence.{since_lent, cut, opened_standing, TookNext, took_next, CollectingNext, collecting_next, RunsOn, calls_run, since_run}
use Rattle.guarantees.specs.DeskCalls.{sum, one_step, one_trial, one_ticket, Some, ReportsDone, HandsOver, TakenWith, TakenBoth, Collecting, CollectedWith, HandedOver, DeskCalls, TrialCalls, LeadTo, TrialsMeet}
use Rattle.guarantees.proofs.Engine.{one_not_several, accepts_it, within_itself}
use Rattle.guarantees.proofs.Solvable.{answer_exists}
use Rattle.guarantees.proofs.Seen.{sum_total, sum_append, step_by, step_same, run_steps, trial_by, trial_same, run_trials, ticket_by, ticket_same, run_tickets, seen_some, told_some, DoneBy, run_done, done_run, done_seen, seen_told, HandsBy, run_hands, hands_run, hands_told, hands_seen, waits_number, refused_number, handed_number_lem, handed_as}

-- ---- own trials

module _ {n number : ℕ} {d e : Desk} {p : List ℕ} (o : FromOpening Gives n d) (t : TakesIn n d p (Machine.ticket number) e) where
  -- A step that tells a ticket that waits: where it is this one, fewer than 24 did before.
  told_most : {k i own : ℕ} {f : Desk} {problem : List ℕ} (run : Run Gives n e k f) (m : ℕ) → Stands f i (Machine.waits m problem own) → turns number run ≤ most_trials
      → turns number run + cond (eqb m number) 1 0 ≤ most_trials
  told_most {i = i} {own} {f} {problem} run m st few = go (ℕ_discrete m number)
    where
      go : Dec (m ≡ number) → turns number run + cond (eqb m number) 1 0 ≤ most_trials
      go (yes same) =
          let mine = subst (λ (z : ℕ). Stands f i (Machine.waits z problem own)) same st in
          rw (eq-eqb m number same) (omega (arith, desk_holds.own_waiting o t run mine, desk_holds.own_trials (run_on o t run) mine))
      go (no other) = rw (ne_eqb m number other) (omega arith)

  turns_most : {k : ℕ} {f : Desk} (run : Run Gives n e k f) → turns number run ≤ most_trials
  unfolding turns turn
  turns_most nothing = omega arith
  turns_most (take_in run u) = turns_most run
  turns_most (one_step_is run (Steps.turned_away h)) = let few = turns_most run in omega arith
  turns_most (one_step_is run (Steps.idle h l)) = let few = turns_most run in omega arith
  turns_most (one_step_is run (one_more {number = m} h head st found more)) = told_most run m st (turns_most run)
  turns_most (one_step_is run (last_one {number = m} h head st last ans gave)) = told_most run m st (turns_most run)
  turns_most (collect run c) = turns_most run

-- ---- a ticket whose answer was handed over is held no more

-- The collection that did, and the run since.
record Gone (n number : ℕ) (f : Desk) : Type 0 where
  next : Desk
  steps : ℕ
  not_held : {k : ℕ} {g : Desk} → Run Gives n next k g → NotHeld g number
  run : Run Gives n next steps f

gone_now : {n m number : ℕ} {d e : Desk} {before after : List ℕ} (r : Machine.Collected) → FromOpening Gives n d → Collects n d m before r e after → Laws.HandsOver number m r → Gone n number e
unfolding Laws.HandsOver
gone_now (Machine.Collected.refused k) o c h = absurd h
gone_now Machine.still_waits o c h = absurd h
gone_now {e = e} (Machine.collected class span own size) o c h = record {
  next = e;
  steps = 0;
  not_held = λ {k} {g} run. subst (NotHeld g) h (desk_holds.collected_once o c run);
  run = nothing;
}

gone : (number : ℕ) {n k : ℕ} {d e : Desk} → FromOpening Gives n d → (run : Run Gives n d k e) → Laws.HandedOver number run → Gone n number e
unfolding Laws.HandedOver
gone number o nothing h = absurd h
gone number o (take_in run t) h = let g = gone number o run h in record { next = g.next; steps = _; not_held = g.not_held; run = take_in g.run t }
gone number o (one_step_is run t) h = let g = gone number o run h in record { next = g.next; steps = _; not_held = g.not_held; run = one_step_is g.run t }
gone number o (collect {r = r} run t) h = ⊎_elim
    (λ h. let g = gone number o run h in record { next = g.next; steps = _; not_held = g.not_held; run = collect g.run t })
    (λ h. gone_now r (from_run o run) t h)
    h

-- ---- a sequence cut at a taking-in

record Taken (p : List ℕ) (ticket : ℕ) (earlier later : List Seen) : Type 0 where
  size : ℕ
  memory₁ : List ℕ
  words₁ : List ℕ
  memory₂ : List ℕ
  words₂ : List ℕ
  memory₃ : List ℕ
  words₃ : List ℕ
  before : RunsOn size Machine.opened earlier memory₁ words₁
  took : TookNext size before.as_run.state p ticket memory₂ words₂
  calls : Calls memory₂ words₂ later memory₃ words₃

take_apart : {n ticket : ℕ} {p memory words memory₃ words₃ : List ℕ} {earlier later : List Seen} → RunsOn n Machine.opened earlier memory words
    → Calls memory words (took_in p 0 ticket ∷ later) memory₃ words₃ → Taken p ticket earlier later
take_apart {n} {memory = memory} {words} {memory₃} {words₃} r (Calls.take_in {memory₁ = memory₁} {words₁ = words₁} t calls) = record {
  size = n;
  memory₁ = memory;
  words₁ = words;
  memory₂ = memory₁;
  words₂ = words₁;
  memory₃ = memory₃;
  words₃ = words₃;
  before = r;
  took = took_next r.standing t;
  calls = calls;
}

taken_apart : (earlier : List Seen) {p : List ℕ} {ticket : ℕ} {later : List Seen} → TakenWith p ticket earlier later → Taken p ticket earlier later
taken_apart earlier s = let c = cut earlier s.calls.calls in take_apart (calls_run (opened_standing s.calls.opening) c.before) c.after

module _ {p : List ℕ} {ticket : ℕ} {earlier later : List Seen} (s : TakenWith p ticket earlier later) where
  apart : Taken p ticket earlier later
  apart = taken_apart earlier s

  -- The state before, and the run since.
  from : FromOpening Gives apart.size apart.before.as_run.state
  from = apart.before.standing.from_opening

  since : RunsOn apart.size apart.took.next later apart.memory₃ apart.words₃
  since = calls_run apart.took.standing apart.calls

  calls_own : sum (one_trial ticket) later ≤ most_trials
  calls_own =
      let run = since.as_run.run in
      omega (arith, sum_total (one_trial ticket) (trial_by ticket) (trial_same ticket) since.as_run.same, run_trials ticket run, turns_most from apart.took.takes run)

  calls_within : desk_steps ≤ sum one_step later → Some (ReportsDone ticket) later
  calls_within h =
      let run = since.as_run.run in
      let same = sum_total one_step step_by step_same since.as_run.same in
      seen_some (DoneBy ticket) (ReportsDone ticket) (done_seen ticket) since.as_run.same (run_done ticket run (desk_holds.steps_after from apart.took.takes run (omega (arith, same, run_steps run))))

  calls_ticket : ticket ≡ suc (sum one_ticket earlier)
  calls_ticket =
      let before = apart.before.as_run in
      omega (arith, sum_total one_ticket ticket_by ticket_same before.same, run_tickets before.run, ((desk_holds {Gives = Gives}).tickets_count apart.took.takes).0)

calls_rise : {p q : List ℕ} {ticket other : ℕ} → TakenBoth p ticket q other → ticket < other
unfolding sum one_ticket
calls_rise {p} {q} {ticket} {other} b =
    let whole = sym (append_assoc b.earlier (took_in p 0 ticket ∷ b.between) (took_in q 0 other ∷ b.later)) in
    let again : TakenWith q other (b.earlier ++ (took_in p 0 ticket ∷ b.between)) b.later = record { calls = subst SinceOpening whole b.taken.calls } in
    omega (arith, calls_ticket b.taken, calls_ticket again, sum_append one_ticket b.earlier (took_in p 0 ticket ∷ b.between))

-- ---- and at a collection

record Asked (p : List ℕ) (ticket : ℕ) (between : List Seen) (before : List ℕ) (number : ℕ) (after : List ℕ) : Type 0 where
  size : ℕ
  state : Desk
  from : FromOpening Gives size state
  then : Desk
  takes : TakesIn size state p (Machine.ticket ticket) then
  memory : List ℕ
  words : List ℕ
  words' : List ℕ
  runs : RunsOn size then between memory words
  asks : CollectingNext size runs.as_run.state ticket before number after memory words'

ask_apart : {n ticket number : ℕ} {d e : Desk} {p before after memory words memory₃ words₃ : List ℕ} {between later : List Seen} → FromOpening Gives n d → TakesIn n d p (Machine.ticket ticket) e
    → RunsOn n e between memory words → Calls memory words (collected ticket before number after ∷ later) memory₃ words₃ → Asked p ticket between before number after
ask_apart {n} {d = d} {e} {memory = memory} {words} o t r (Calls.collect {words₁ = words₁} c calls) = record {
  size = n;
  state = d;
  from = o;
  then = e;
  takes = t;
  memory = memory;
  words = words;
  words' = words₁;
  runs = r;
  asks = collecting_next r.standing c;
}

asked : {p before after : List ℕ} {ticket number : ℕ} {between : List Seen} → Collecting p ticket between before number after → Asked p ticket between before number after
asked {between = between} c =
    let a = apart c.taken in
    let t = cut between a.calls in
    ask_apart (from c.taken) a.took.takes (calls_run a.took.standing t.before) t.after

module _ {p before after : List ℕ} {ticket number : ℕ} {between : List Seen} (a : Asked p ticket between before number after) where
  now : FromOpening Gives a.size a.runs.as_run.state
  now = a.runs.standing.from_opening

  enough : first (memory_refused a.size ∷ []) ≡ 0
  enough = memory_enough a.size a.runs.standing.enough

  reported : Some (ReportsDone ticket) between → Reported ticket a.runs.as_run.run
  reported h = done_run ticket a.runs.as_run.run (told_some (DoneBy ticket) (ReportsDone ticket) (seen_told ticket) a.runs.as_run.same h)

  asked_waits : (Some (ReportsDone ticket) between → ⊥) → (number ≡ 0) × (after ≡ before)
  asked_waits none = ⊎_elim
      (λ (r : Reported ticket a.runs.as_run.run). absurd (none (seen_some (DoneBy ticket) (ReportsDone ticket) (done_seen ticket) a.runs.as_run.same (run_done ticket a.runs.as_run.run r))))
      (λ (w : HeldWaiting a.runs.as_run.state ticket (meant p)).
      let h = desk_holds.waiting_says_so now enough w.there a.asks.collects in
      (waits_number (subst (λ (z : Machine.Collected). SeenAs (collected ticket before number after) (collecting ticket before z after)) h.0 a.asks.seen), h.2))
      (desk_holds.held_until_reported a.from a.takes a.runs.as_run.run)

  -- An answer that was handed over before, or is there.
  asked_held : {T : Type 0} → Some (ReportsDone ticket) between → (HeldAnswered a.runs.as_run.state ticket (meant p) → T) → Some (HandsOver ticket) between ⊎ T
  asked_held h there = ⊎_elim
      (λ (g : Laws.HandedOver ticket a.runs.as_run.run). inl (seen_some (HandsBy ticket) (HandsOver ticket) (hands_seen ticket) a.runs.as_run.same (run_hands ticket a.runs.as_run.run g)))
      (λ (g : HeldAnswered a.runs.as_run.state ticket (meant p)). inr (there g))
      (desk_holds.reported_held a.from a.takes a.runs.as_run.run (reported h))

  asked_short : Some (ReportsDone ticket) between → length before < answer_most → Some (HandsOver ticket) between ⊎ ((number ≡ refused_room) × (after ≡ before))
  asked_short h short = asked_held h (λ g.
      let w = desk_holds.short_says_so now enough g.there short a.asks.collects in
      (refused_number (subst (λ (z : Machine.Collected). SeenAs (collected ticket before number after) (collecting ticket before z after)) w.0 a.asks.seen), w.2))

  asked_handed : Some (ReportsDone ticket) between → answer_most ≤ length before → Some (HandsOver ticket) between ⊎ (256 ≤ number)
  asked_handed h long = asked_held h (λ g.
      let w = desk_holds.answered_handed now enough g.there long a.asks.collects in
      (handed_number_lem (subst (λ (z : Machine.Collected). SeenAs (collected ticket before number after) (collecting ticket before z after)) w.0 a.asks.seen)).1)

  asked_gone : Some (HandsOver ticket) between → (number ≡ refused_ticket) × (after ≡ before)
  asked_gone h =
      let run = a.runs.as_run.run in
      let g = gone ticket (record { steps = _; run = take_in a.from.run a.takes }) run (hands_run ticket run (told_some (HandsBy ticket) (HandsOver ticket) (hands_told ticket) a.runs.as_run.same h)) in
      let w = desk_holds.unheld_says_so now enough (g.not_held g.run) a.asks.collects in
      (refused_number (subst (λ (z : Machine.Collected). SeenAs (collected ticket before number after) (collecting ticket before z after)) w.0 a.asks.seen), w.2)

-- ---- what `solve` writes for the problem alone

result_found : {q before after : List ℕ} {r : Results.Solved} {class own : ℕ} {span : Trop} → Solves q before r after → AsksOne q → engine_refusal q (length before) ≡ 0 → Found (problem_of q) class span own
    → r ≡ answered class span own (answer_size class (n_field q) (m_field q))
result_found (Results.turned_away e) k h f = absurd (let z : suc _ ≡ 0 = sym e ∙ h in omega arith)
result_found {q} (all_solved three e all) k h f = absurd (one_not_several q k three)
result_found (solved a one e ans) k h f = let same = found_one ans.found f in rw (same.0, same.1, same.2) refl

record_written : {q before after : List ℕ} {r : Results.Solved} {class own size : ℕ} {span : Trop} {a : Answer} → Writes q before r after → r ≡ answered class span own size → Gives q a
    → after ≡ written before (answer_bytes (n_field q) a)
record_written Writes.refused e g = absurd (let z : ◌≡◌ {A = ℕ} 0 1 = cc in omega arith)
record_written {q} {before} {a = a} (Writes.one {a = b} k ans h) e g = ap (λ (x : Answer). written before (answer_bytes (n_field q) x)) (gives_one q b a h g)
record_written (Writes.several k t) e g = absurd (let z : ◌≡◌ {A = ℕ} 0 1 = cc in omega arith)

-- ---- what is collected

-- The answer of the problem that the bytes mean, as a record at the buffer's start.
record Handed (problem before : List ℕ) (class : ℕ) (span : Trop) (own : ℕ) (after : List ℕ) : Type 0 where
  answer : Answer
  within : WithinLayout problem
  answers : Results.Answers (problem_of problem) class span own answer
  gives : Gives problem answer
  few : own ≤ most_trials
  buffer_is : after ≡ written before (answer_bytes (n_field problem) answer)

collects_handed : {n number k class own size : ℕ} {span : Trop} {d e f g : Desk} {p before after : List ℕ} → FromOpening Gives n d → TakesIn n d p (Machine.ticket number) e → Run Gives n e k f
    → Collects n f number before (Machine.collected class span own size) g after → Handed (meant p) before class span own after
collects_handed {class = class} {own} {span = span} {before = before} {after} o t run (Collects.handed_over {problem = problem} {a = a} h st room) =
    let v = desk_holds.answers_alone (run_on o t run) st in
    subst (λ (z : List ℕ). Handed z before class span own after) (desk_holds.ticket_answered o t run st) (record {
      answer = a;
      within = desk_within problem v.0;
      answers = v.1;
      gives = v.2;
      few = desk_holds.trials_of_answered (run_on o t run) st;
      buffer_is = refl;
    })

module _ (check : Checker) (judges : CheckerJudges check) where
  handed_right : {p before after : List ℕ} {number class own : ℕ} {span : Trop} → number ≡ handed_number class own → Handed (meant p) before class span own after → HandedOver check p before number after
  handed_right {p} {class = class} {own} {span} e h =
      let q = meant p in
      let size : length (answer_bytes (n_field q) h.answer) ≡ answer_size class (n_field q) (m_field q) =
      answer_length h.answer (n_field q) (m_field q) answer_most (answer_takes q h.within h.answer h.answers) ∙ ap (λ (c : ℕ). answer_size c (n_field q) (m_field q)) h.answers.class_is in
      record {
        class = class;
        span = span;
        own = own;
        answer = h.answer;
        bytes = answer_bytes (n_field q) h.answer;
        number_is = e;
        few = h.few;
        found = h.answers.found;
        gives = h.gives;
        bytes_are = refl;
        size_is = size;
        buffer_is = h.buffer_is;
        accepted_is = λ slice. accepts_it check judges p slice h.within h.answer h.answers;
        solve_writes = λ {buffer} room s.
            let k = within_asks q h.within in
            let result = result_found s.solves k ((one_refused q (length buffer) k).1 (h.within, room)) h.answers.found in
            (result ∙ ap (answered class span own) (sym size), record_written s.writes result h.gives);
      }

  asked_over : {p before after : List ℕ} {ticket number n k : ℕ} {d e f g : Desk} {r : Machine.Collected} → FromOpening Gives n d → TakesIn n d p (Machine.ticket ticket) e → Run Gives n e k f
      → Collects n f ticket before r g after → SeenAs (collected ticket before number after) (collecting ticket before r after) → 256 ≤ number → HandedOver check p before number after
  asked_over {before = before} {after = after} {ticket = ticket} {n = n} {f = f} {g = g} o t run c seen h =
      let w = handed_as seen h in
      handed_right w.number_is (collects_handed o t run (subst (λ (z : Machine.Collected). Collects n f ticket before z g after) w.report c))

  calls_handed : {p before after : List ℕ} {ticket number : ℕ} → CollectedWith p ticket before number after → HandedOver check p before number after
  calls_handed c = let a = asked c.collecting in asked_over a.from a.takes a.runs.as_run.run a.asks.collects a.asks.seen c.handed

  -- Two answers of the same bytes.
  same_handed : {p before after before' after' : List ℕ} {number number' : ℕ} (h : HandedOver check p before number after) (g : HandedOver check p before' number' after')
      → (number ≡ number') × (h.bytes ≡ g.bytes)
  same_handed {p} h g =
      let one = found_one h.found g.found in
      let same = gives_one (meant p) h.answer g.answer h.gives g.gives in
      (h.number_is ∙ ap₂ handed_number one.0 one.2 ∙ sym g.number_is, h.bytes_are ∙ ap (answer_bytes (n_field (meant p))) same ∙ sym g.bytes_are)

  pub desk_calls : DeskCalls check
  desk_calls = record {
    next_call = since_lent;
    as_run = since_run;
    own_trials = calls_own;
    within_steps = calls_within;
    next_ticket = calls_ticket;
    never_twice = calls_rise;
    waits_so = λ c. asked_waits (asked c);
    short_so = λ c. asked_short (asked c);
    handed_so = λ c. asked_handed (asked c);
    gone_so = λ c. asked_gone (asked c);
    handed_over = calls_handed;
    same_answer = λ c d. same_handed (calls_handed c) (calls_handed d);
  }

-- ---- the engine gives an answer for every problem that the desk takes

module _ (calls : TrialCalls) (meet : TrialsMeet calls) (p : List ℕ) (slice : Slice p) where
  answered_some : {q : Pending} → AnsweredFor (meant p) q → SomeGiven Gives (meant p)
  answered_some a = record { class = _; span = _; trials = _; answer = _; answers = a.answers; gives = a.gives }

  -- One trial: it is answered, or goes on.
  next_some : (q : Pending) → LeadTo calls p q → PendingFor (meant p) q → (Onward (meant p) q.search.made (calls.trial p q) → SomeGiven Gives (meant p)) → SomeGiven Gives (meant p)
  next_some q led pending on = go (calls.trial p q).search.class refl
    where
      go : (c : Option Class) → (calls.trial p q).search.class ≡ c → SomeGiven Gives (meant p)
      go None e = on ((meet.tries p q slice led pending).goes_on e)
      go (Option.Some c) e = answered_some ((meet.tries p q slice led pending).ends (λ f. let g : Option.Some c ≡ None = sym e ∙ f in let z : ◌≡◌ {A = ℕ} 0 1 = cc in omega arith)).0

  -- All trials that its class and span ask for.
  tried_some : (fuel : ℕ) {class trials : ℕ} {span : Trop} → Found (problem_of (meant p)) class span trials → (q : Pending) → LeadTo calls p q → PendingFor (meant p) q → trials ≤ q.search.made + fuel
      → SomeGiven Gives (meant p)
  tried_some zero {class} {trials} {span} found q led pending enough = next_some q led pending (λ on. absurd (omega (arith, on.more class trials span found)))
  tried_some (suc fuel) found q led pending enough =
      next_some q led pending (λ on. tried_some fuel found (calls.trial p q) (LeadTo.tried led) on.pending (omega (arith, on.made_is)))

  -- The problem begun, which nothing refuses.
  begun_some : (r : Result Pending Refusal) → calls.begin p ≡ r → WithinDesk (meant p) → SomeGiven Gives (meant p)
  unfolding problem_of
  begun_some (Err k) e w = absurd (let none = (meet.begins p slice).refused_is ∙ w in let z : number_of k ≡ 0 = rw e at none in omega (arith, z, (number_range k).0))
  begun_some (Ok q) e w =
      let own = desk_within (meant p) w in
      let s = answer_exists (problem_of (meant p)) (problem_fits (meant p) own).n_most (layout_within (meant p) own) in
      tried_some s.trials s.answers.found q (LeadTo.begun e) ((meet.begins p slice).begun q e) (omega arith)

  pub some_given : WithinDesk (meant p) → SomeGiven Gives (meant p)
  some_given = begun_some (calls.begin p) refl

  -- So too for a record that the desk takes as it stands.
  pub desk_given : WithinDesk p → SomeGiven Gives p
  desk_given w =
      let same = within_itself p (desk_within p w) in
      subst (SomeGiven Gives) same (some_given (subst WithinDesk (sym same) w))
