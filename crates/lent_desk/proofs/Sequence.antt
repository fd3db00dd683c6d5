-- Calls one after another, from an opening that gave 0 on, are a run of the machine with the same reports.
use Prim.Native.Nat.{ℕ, suc, ◌≤◌, ◌<◌}
use mathlib.Core.Path.{◌≡◌, refl, sym, ap, subst, ◌∙◌}
use mathlib.Core.List.{List, [], ◌∷◌, ◌++◌, append_assoc, append-nil}
use native.Mathlib.Omega.{arith}
use lib.ListN.{length}
use Rattle.definitions.specs.Limits.{desk_memory}
use Rattle.definitions.specs.Tropical.{Trop}
use Rattle.definitions.specs.Problem.{Problem}
use Rattle.definitions.specs.Bytes.{first}
use Rattle.definitions.specs.Solved.{Found, optimal, unbounded, infeasible}
use Rattle.definitions.specs.Desk as Machine
use Rattle.definitions.specs.Desk.{FromOpening, Run, TakesIn, Steps, Collects, memory_refused}
use Rattle.engine.specs.Outcome.{Gives}
use Rattle.tickets.proofs.Holds.{desk_holds}
use Rattle.desk.specs.State.{Holds}
use Rattle.desk.specs.Calls.{Left}
use Rattle.desk.proofs.Taking.{memory_enough}
use Rattle.desk_words.specs.Words.{desk_words, desk_from, told_in}
use Rattle.lent_desk.specs.Entries.{AsLent, OverLent, Moves, OpenedAs, TakenFrom, TakenAs, Tells, SteppedFrom, SteppedAs, CollectedFrom, CollectedAs}
use Rattle.lent_desk.specs.Sequence.{Seen, took_in, stepped, collected, Calls, SinceOpening, Report, taking_in, stepping, collecting, reports, SeenAs, AllSeen, AsRun}
use Rattle.lent_desk.proofs.Lent.{opened_lent, taken_lent, stepped_lent, collected_lent}

-- ---- the premise of every call

pub calls_lent : {memory words memory₂ words₂ : List ℕ} {seen : List Seen} → AsLent memory words → Calls memory words seen memory₂ words₂ → AsLent memory₂ words₂
calls_lent lent Calls.no_more = lent
calls_lent lent (Calls.take_in t calls) = calls_lent (taken_lent lent t) calls
calls_lent lent (Calls.step t calls) = calls_lent (stepped_lent lent t) calls
calls_lent lent (Calls.collect t calls) = calls_lent (collected_lent lent t) calls

pub since_lent : {seen : List Seen} → (s : SinceOpening seen) → AsLent s.memory_now s.words_now
since_lent s = calls_lent (opened_lent s.opening) s.calls

-- ---- sequences cut in two

pub record Cut (memory words : List ℕ) (earlier later : List Seen) (memory₂ words₂ : List ℕ) : Type 0 where
  pub memory₁ : List ℕ
  pub words₁ : List ℕ
  pub before : Calls memory words earlier memory₁ words₁
  pub after : Calls memory₁ words₁ later memory₂ words₂

pub cut : (earlier : List Seen) {later : List Seen} {memory words memory₂ words₂ : List ℕ} → Calls memory words (earlier ++ later) memory₂ words₂ → Cut memory words earlier later memory₂ words₂
cut [] calls = record { memory₁ = _; words₁ = _; before = Calls.no_more; after = calls }
cut (x ∷ earlier) (Calls.take_in t calls) = let c = cut earlier calls in record { memory₁ = c.memory₁; words₁ = c.words₁; before = Calls.take_in t c.before; after = c.after }
cut (x ∷ earlier) (Calls.step t calls) = let c = cut earlier calls in record { memory₁ = c.memory₁; words₁ = c.words₁; before = Calls.step t c.before; after = c.after }
cut (x ∷ earlier) (Calls.collect t calls) = let c = cut earlier calls in record { memory₁ = c.memory₁; words₁ = c.words₁; before = Calls.collect t c.before; after = c.after }

-- ---- one call

-- Memory and words are long enough and hold this state, to which calls lead from an opening on.
pub record Standing (n : ℕ) (d : Machine.Desk) (memory words : List ℕ) : Type 0 where
  pub from_opening : FromOpening Gives n d
  pub enough : desk_memory ≤ n
  pub long : desk_words ≤ length words
  pub same_length : length memory ≡ n
  pub holds : Holds (desk_from words) memory d

pub opened_standing : {memory words first : List ℕ} → OpenedAs memory words 0 first → Standing (length memory) Machine.opened memory first
opened_standing (OverLent.short h s) = absurd (omega (arith, s.0))
opened_standing (OverLent.too_few h f s) = absurd (omega (arith, s.0))
opened_standing (OverLent.makes h w m) = record { from_opening = record { steps = 0; run = Machine.nothing }; enough = h; long = omega (arith, m.3.0.same); same_length = refl; holds = m.2 }

-- A problem was taken in.
pub record TookNext (n : ℕ) (d : Machine.Desk) (p : List ℕ) (told : ℕ) (memory words : List ℕ) : Type 0 where
  pub next : Machine.Desk
  pub takes : TakesIn n d p (Machine.ticket told) next
  pub standing : Standing n next memory words

-- A ticket was asked for.
pub record CollectingNext (n : ℕ) (d : Machine.Desk) (ticket : ℕ) (before : List ℕ) (number : ℕ) (after memory words : List ℕ) : Type 0 where
  pub result : Machine.Collected
  pub next : Machine.Desk
  pub collects : Collects n d ticket before result next after
  pub seen : SeenAs (collected ticket before number after) (collecting ticket before result after)
  pub standing : Standing n next memory words

-- A run goes on by one call, with its report.
record Extended {n k : ℕ} {d₀ d : Machine.Desk} (run : Run Gives n d₀ k d) (r : Report) (next : Machine.Desk) : Type 0 where
  steps : ℕ
  on : Run Gives n d₀ steps next
  reports_are : reports on ≡ reports run ++ (r ∷ [])

record Next (n : ℕ) (d : Machine.Desk) (x : Seen) (memory words : List ℕ) : Type 0 where
  next : Machine.Desk
  report : Report
  seen : SeenAs x report
  extends : {k : ℕ} {d₀ : Machine.Desk} (run : Run Gives n d₀ k d) → Extended run report next
  standing : Standing n next memory words

found_class : {p : Problem} {class trials : ℕ} {span : Trop} → Found p class span trials → 0 < class
found_class (optimal o) = omega arith
found_class (unbounded u) = omega arith
found_class (infeasible i) = omega arith

taking_refused : {n k : ℕ} {d next : Machine.Desk} {p : List ℕ} → TakesIn n d p (Machine.TakenIn.refused k) next → 0 < k
taking_refused (TakesIn.turned_away e) = omega arith

-- A collected answer has a class; a refusal's number is one byte.
collected_class : {n number class own size : ℕ} {span : Trop} {d next : Machine.Desk} {before after : List ℕ} → FromOpening Gives n d
    → Collects n d number before (Machine.collected class span own size) next after → 0 < class
collected_class o (Collects.handed_over e g l) = found_class (desk_holds.answers_alone o g).1.found

refused_byte : {n number k : ℕ} {d next : Machine.Desk} {before after : List ℕ} → first (memory_refused n ∷ []) ≡ 0
    → Collects n d number before (Machine.Collected.refused k) next after → (0 < k) × (k < 256)
refused_byte h (Collects.turned_away e) = absurd (let z : 0 ≡ suc _ = sym h ∙ e in omega arith)
refused_byte h (Collects.no_such_ticket e g) = (omega arith, omega arith)
refused_byte h (Collects.short_buffer e g l) = (omega arith, omega arith)

module _ {n : ℕ} {d : Machine.Desk} {memory words : List ℕ} (s : Standing n d memory words) where
  left : Left (desk_from words) memory
  left = record { state = d; from_opening = subst (λ (z : ℕ). FromOpening Gives z d) (sym s.same_length) s.from_opening; holds = s.holds }

  made : {Still : ℕ → Type 0} (From : Machine.Desk → Type 0) → OverLent memory words Still (Moves memory words From) → From d
  unfolding left
  made From (OverLent.short h x) = absurd (omega (arith, s.enough, s.same_length))
  made From (OverLent.too_few h f x) = absurd (omega (arith, s.long))
  made From (OverLent.makes h w m) = m left

  -- ---- taking in

  takes_on : {p : List ℕ} {r : Machine.TakenIn} {next : Machine.Desk} → TakesIn n d p r next → FromOpening Gives n next
  takes_on t = record { steps = _; run = Machine.take_in s.from_opening.run t }

  extends_taking : {p : List ℕ} {r : Machine.TakenIn} {next : Machine.Desk} → TakesIn n d p r next → {k : ℕ} {d₀ : Machine.Desk} (run : Run Gives n d₀ k d) → Extended run (taking_in p r) next
  unfolding reports
  extends_taking t run = record { steps = _; on = Machine.take_in run t; reports_are = refl }

  took_zero : {p memory₁ words₁ : List ℕ} {number : ℕ} → number ≡ 0 → TakenFrom memory words p d number memory₁ words₁ → TookNext n d p (told_in words₁) memory₁ words₁
  took_zero z (TakenFrom.refused t) = absurd (omega (arith, taking_refused t))
  took_zero {p} z (TakenFrom.taken {told = told} t p₁) =
      let takes = subst (λ (k : ℕ). TakesIn n d p (Machine.ticket k) t.next) (sym p₁.0.told_is) (subst (λ (l : ℕ). TakesIn l d p (Machine.ticket told) t.next) s.same_length t.takes) in
      record {
        next = t.next;
        takes = takes;
        standing = record { from_opening = takes_on takes; enough = s.enough; long = omega (arith, s.long, p₁.0.same); same_length = t.same_length ∙ s.same_length; holds = t.holds };
      }

  pub took_next : {p memory₁ words₁ : List ℕ} → TakenAs memory words p 0 memory₁ words₁ → TookNext n d p (told_in words₁) memory₁ words₁
  took_next {p} {memory₁} {words₁} t = took_zero refl (made (λ state. TakenFrom memory words p state 0 memory₁ words₁) t)

  taken_on : {p memory₁ words₁ : List ℕ} {number : ℕ} → TakenFrom memory words p d number memory₁ words₁ → Next n d (took_in p number (told_in words₁)) memory₁ words₁
  taken_on {p} {number = number} (TakenFrom.refused t) =
      let some = taking_refused t in
      let t = subst (λ (l : ℕ). TakesIn l d p (Machine.TakenIn.refused number) d) s.same_length t in
      record { next = d; report = _; seen = SeenAs.not_taken some; extends = λ run. extends_taking t run; standing = s }
  taken_on (TakenFrom.taken t p₁) =
      let w = took_zero refl (TakenFrom.taken t p₁) in
      record { next = w.next; report = _; seen = SeenAs.ticket; extends = λ run. extends_taking w.takes run; standing = w.standing }

  taking : {p memory₁ words₁ : List ℕ} {number : ℕ} → TakenAs memory words p number memory₁ words₁ → Next n d (took_in p number (told_in words₁)) memory₁ words₁
  taking {p} {memory₁} {words₁} {number} t = taken_on (made (λ state. TakenFrom memory words p state number memory₁ words₁) t)

  -- ---- a step

  extends_step : {r : Machine.Stepped} {next : Machine.Desk} → Steps Gives n d r next → {k : ℕ} {d₀ : Machine.Desk} (run : Run Gives n d₀ k d) → Extended run (stepping r) next
  unfolding reports
  extends_step t run = record { steps = _; on = Machine.one_step_is run t; reports_are = refl }

  step_on : {words₁ : List ℕ} {number : ℕ} → SteppedFrom memory words d number words₁ → Next n d (stepped number (told_in words₁)) memory words₁
  step_on (SteppedFrom.idle t) =
      let t = subst (λ (l : ℕ). Steps Gives l d Machine.none_waits d) s.same_length t in
      record { next = d; report = _; seen = SeenAs.idle; extends = λ run. extends_step t run; standing = s }
  step_on (SteppedFrom.tried {r = r} {number = number} tells t p₁) =
      let steps = subst (λ (l : ℕ). Steps Gives l d r t.next) s.same_length t.steps in
      record {
        next = t.next;
        report = _;
        seen = SeenAs.tried (subst (λ (k : ℕ). Tells r k number) (sym p₁.0.told_is) tells);
        extends = λ run. extends_step steps run;
        standing = record {
          from_opening = record { steps = _; run = Machine.one_step_is s.from_opening.run steps };
          enough = s.enough;
          long = omega (arith, s.long, p₁.0.same);
          same_length = s.same_length;
          holds = t.holds;
        };
      }

  a_step : {words₁ : List ℕ} {number : ℕ} → SteppedAs memory words number words₁ → Next n d (stepped number (told_in words₁)) memory words₁
  a_step {words₁} {number} t = step_on (made (λ state. SteppedFrom memory words state number words₁) t)

  -- ---- collecting

  extends_collecting : {ticket : ℕ} {before after : List ℕ} {r : Machine.Collected} {next : Machine.Desk} → Collects n d ticket before r next after → {k : ℕ} {d₀ : Machine.Desk} (run : Run Gives n d₀ k d)
      → Extended run (collecting ticket before r after) next
  unfolding reports
  extends_collecting t run = record { steps = _; on = Machine.collect run t; reports_are = refl }

  collect_on : {ticket number : ℕ} {before words₁ after : List ℕ} → CollectedFrom memory words ticket before d number words₁ after → CollectingNext n d ticket before number after memory words₁
  unfolding left
  collect_on {ticket} {number} {before} (CollectedFrom.refused t) =
      let few = refused_byte (memory_enough (length memory) (omega (arith, s.same_length, s.enough))) t in
      record {
        result = _;
        next = d;
        collects = subst (λ (l : ℕ). Collects l d ticket before (Machine.Collected.refused number) d before) s.same_length t;
        seen = SeenAs.not_collected few.0 few.1;
        standing = s;
      }
  collect_on {ticket} {before = before} (CollectedFrom.still_waits t) = record {
    result = _;
    next = d;
    collects = subst (λ (l : ℕ). Collects l d ticket before Machine.still_waits d before) s.same_length t;
    seen = SeenAs.still_waits;
    standing = s;
  }
  collect_on {ticket} {before = before} {after = after} (CollectedFrom.handed {class = class} {own = own} {size = size} {span = span} t p₁) =
      let some = collected_class left.from_opening t.collects in
      let collects = subst (λ (l : ℕ). Collects l d ticket before (Machine.collected class span own size) t.next after) s.same_length t.collects in
      record {
        result = _;
        next = t.next;
        collects = collects;
        seen = SeenAs.handed some;
        standing = record {
          from_opening = record { steps = _; run = Machine.collect s.from_opening.run collects };
          enough = s.enough;
          long = omega (arith, s.long, p₁.0.same);
          same_length = s.same_length;
          holds = t.holds;
        };
      }

  pub collecting_next : {ticket number : ℕ} {before words₁ after : List ℕ} → CollectedAs memory words ticket before number words₁ after → CollectingNext n d ticket before number after memory words₁
  collecting_next {ticket} {number} {before} {words₁} {after} t = collect_on (made (λ state. CollectedFrom memory words ticket before state number words₁ after) t)

  a_collection : {ticket number : ℕ} {before words₁ after : List ℕ} → CollectedAs memory words ticket before number words₁ after → Next n d (collected ticket before number after) memory words₁
  a_collection t = let w = collecting_next t in record { next = w.next; report = _; seen = w.seen; extends = λ run. extends_collecting w.collects run; standing = w.standing }

-- ---- all calls

-- The run so far goes on by these calls.
record Onward {n k : ℕ} {d₀ d : Machine.Desk} (run₀ : Run Gives n d₀ k d) (seen : List Seen) (memory words : List ℕ) : Type 0 where
  steps : ℕ
  state : Machine.Desk
  run : Run Gives n d₀ steps state
  told : List Report
  same : AllSeen seen told
  reports_are : reports run ≡ reports run₀ ++ told
  standing : Standing n state memory words

module _ {n k : ℕ} {d₀ d : Machine.Desk} (run : Run Gives n d₀ k d) where
  onward : {x : Seen} {seen : List Seen} {memory₁ words₁ memory₂ words₂ : List ℕ} (m : Next n d x memory₁ words₁) → Onward (m.extends run).on seen memory₂ words₂ → Onward run (x ∷ seen) memory₂ words₂
  onward m w = record {
    steps = w.steps;
    state = w.state;
    run = w.run;
    told = m.report ∷ w.told;
    same = AllSeen.more m.seen w.same;
    reports_are = w.reports_are ∙ ap (λ (l : List Report). l ++ w.told) (m.extends run).reports_are ∙ append_assoc (reports run) (m.report ∷ []) w.told;
    standing = w.standing;
  }

calls_on : {n : ℕ} {d₀ : Machine.Desk} {memory words memory₂ words₂ : List ℕ} {seen : List Seen} {d : Machine.Desk} {k : ℕ} → Standing n d memory words → (run : Run Gives n d₀ k d) → Calls memory words seen memory₂ words₂
    → Onward run seen memory₂ words₂
calls_on {d = d} s run Calls.no_more = record { steps = _; state = d; run = run; told = []; same = AllSeen.none; reports_are = sym (append-nil (reports run)); standing = s }
calls_on s run (Calls.take_in t calls) = let m = taking s t in onward run m (calls_on m.standing (m.extends run).on calls)
calls_on s run (Calls.step t calls) = let m = a_step s t in onward run m (calls_on m.standing (m.extends run).on calls)
calls_on s run (Calls.collect t calls) = let m = a_collection s t in onward run m (calls_on m.standing (m.extends run).on calls)

-- From a state that memory and words hold.
pub record RunsOn (n : ℕ) (d : Machine.Desk) (seen : List Seen) (memory words : List ℕ) : Type 0 where
  pub as_run : AsRun n d seen memory words
  pub standing : Standing n as_run.state memory words

pub calls_run : {n : ℕ} {d : Machine.Desk} {memory words memory₂ words₂ : List ℕ} {seen : List Seen} → Standing n d memory words → Calls memory words seen memory₂ words₂ → RunsOn n d seen memory₂ words₂
unfolding reports
calls_run {seen = seen} s calls =
    let w = calls_on s Machine.nothing calls in
    record {
      as_run = record {
        steps = w.steps;
        state = w.state;
        run = w.run;
        same = subst (AllSeen seen) (sym w.reports_are) w.same;
        same_length = w.standing.same_length;
        holds = w.standing.holds;
      };
      standing = w.standing;
    }

-- From an opening on.
pub since_run : {seen : List Seen} → (s : SinceOpening seen) → AsRun (length s.memory) Machine.opened seen s.memory_now s.words_now
since_run s = (calls_run (opened_standing s.opening) s.calls).as_run
