-- What a caller sees of calls is what the machine reports: steps, trials and tickets counted, and what some call shows.
use Prim.Native.Nat.{ℕ, ◌+◌, ◌≤◌}
use mathlib.Core.Path.{◌≡◌, refl, ap, ap₂, subst, ◌∙◌}
use mathlib.Core.Logic.{◌⊎◌, inl, inr, ⊎_elim}
use mathlib.Core.List.{List, [], ◌∷◌, ◌++◌}
use native.Mathlib.Omega.{arith}
use borrow.Author.Tests.{ne_eqb}
use Rattle.definitions.specs.Tropical.{Trop}
use Rattle.definitions.specs.Desk as Machine
use Rattle.definitions.specs.Desk.{Desk, TakesIn, Run, nothing, take_in, one_step_is, collect}
use Rattle.definitions.specs.DeskLaws as Laws
use Rattle.definitions.specs.DeskLaws.{Reported, turn, turns}
use Rattle.tickets.proofs.Holds.{desk_holds}
use Rattle.engine.specs.Outcome.{Gives}
use Rattle.lent_desk.specs.Entries.{Tells, goes_on_number, done_number, handed_number}
use Rattle.lent_desk.specs.Sequence.{Seen, took_in, stepped, collected, Report, taking_in, stepping, collecting, reports, SeenAs, AllSeen}
use Rattle.guarantees.specs.DeskCalls.{sum, one_step, one_trial, one_ticket, Some, ReportsDone, HandsOver}

-- ---- what a caller counts is what the machine reports

unfoldable pub total : (Report → ℕ) → List Report → ℕ
total f [] = 0
total f (r ∷ told) = f r + total f told

pub total_then : (f : Report → ℕ) (told : List Report) (r : Report) → total f (told ++ (r ∷ [])) ≡ total f told + f r
unfolding total
total_then f [] r = omega arith
total_then f (x ∷ told) r = omega (arith, total_then f told r)

pub sum_total : (f : Seen → ℕ) (g : Report → ℕ) → ((x : Seen) (r : Report) → SeenAs x r → f x ≡ g r) → {seen : List Seen} {told : List Report} → AllSeen seen told → sum f seen ≡ total g told
unfolding sum total
sum_total f g same AllSeen.none = refl
sum_total f g same (AllSeen.more s all) = ap₂ ◌+◌ (same _ _ s) (sum_total f g same all)

pub sum_append : (f : Seen → ℕ) (xs ys : List Seen) → sum f (xs ++ ys) ≡ sum f xs + sum f ys
unfolding sum
sum_append f [] ys = omega arith
sum_append f (x ∷ xs) ys = omega (arith, sum_append f xs ys)

-- Steps.
unfoldable pub step_by : Report → ℕ
step_by (taking_in p r) = 0
step_by (stepping r) = 1
step_by (collecting number before r after) = 0

pub step_same : (x : Seen) (r : Report) → SeenAs x r → one_step x ≡ step_by r
unfolding one_step step_by
step_same x r SeenAs.ticket = refl
step_same x r (SeenAs.not_taken h) = refl
step_same x r SeenAs.idle = refl
step_same x r (SeenAs.tried t) = refl
step_same x r (SeenAs.not_collected h l) = refl
step_same x r SeenAs.still_waits = refl
step_same x r (SeenAs.handed h) = refl

pub run_steps : {n k : ℕ} {d e : Desk} (run : Run Gives n d k e) → total step_by (reports run) ≡ k
unfolding reports total step_by
run_steps nothing = refl
run_steps (take_in run t) = total_then step_by (reports run) _ ∙ (let e = run_steps run in omega arith)
run_steps (one_step_is run t) = total_then step_by (reports run) _ ∙ (let e = run_steps run in omega arith)
run_steps (collect run t) = total_then step_by (reports run) _ ∙ (let e = run_steps run in omega arith)

-- Trials of a ticket.
unfoldable pub trial_by : ℕ → Report → ℕ
trial_by ticket (taking_in p r) = 0
trial_by ticket (stepping r) = turn ticket r
trial_by ticket (collecting number before r after) = 0

pub trial_same : (ticket : ℕ) (x : Seen) (r : Report) → SeenAs x r → one_trial ticket x ≡ trial_by ticket r
unfolding one_trial trial_by turn
trial_same ticket x r SeenAs.ticket = refl
trial_same ticket x r (SeenAs.not_taken h) = refl
trial_same ticket x r SeenAs.idle = refl
trial_same ticket x r (SeenAs.tried Tells.goes_on) = refl
trial_same ticket x r (SeenAs.tried Tells.done) = refl
trial_same ticket x r (SeenAs.not_collected h l) = refl
trial_same ticket x r SeenAs.still_waits = refl
trial_same ticket x r (SeenAs.handed h) = refl

pub run_trials : (ticket : ℕ) {n k : ℕ} {d e : Desk} (run : Run Gives n d k e) → total (trial_by ticket) (reports run) ≡ turns ticket run
unfolding reports total trial_by turns
run_trials ticket nothing = refl
run_trials ticket (take_in run t) = total_then (trial_by ticket) (reports run) _ ∙ (let e = run_trials ticket run in omega arith)
run_trials ticket (one_step_is run t) = total_then (trial_by ticket) (reports run) _ ∙ (let e = run_trials ticket run in omega arith)
run_trials ticket (collect run t) = total_then (trial_by ticket) (reports run) _ ∙ (let e = run_trials ticket run in omega arith)

-- Tickets.
unfoldable pub ticket_by : Report → ℕ
ticket_by (taking_in p (Machine.TakenIn.refused k)) = 0
ticket_by (taking_in p (Machine.ticket told)) = 1
ticket_by (stepping r) = 0
ticket_by (collecting number before r after) = 0

pub ticket_same : (x : Seen) (r : Report) → SeenAs x r → one_ticket x ≡ ticket_by r
unfolding one_ticket ticket_by
ticket_same x r SeenAs.ticket = refl
ticket_same x r (SeenAs.not_taken {k = k} h) = rw (ne_eqb k 0 (λ e. omega arith)) refl
ticket_same x r SeenAs.idle = refl
ticket_same x r (SeenAs.tried t) = refl
ticket_same x r (SeenAs.not_collected h l) = refl
ticket_same x r SeenAs.still_waits = refl
ticket_same x r (SeenAs.handed h) = refl

pub taking_tickets : {n : ℕ} {d e : Desk} {p : List ℕ} (r : Machine.TakenIn) → TakesIn n d p r e → e.given ≡ d.given + ticket_by (taking_in p r)
unfolding ticket_by
taking_tickets (Machine.TakenIn.refused k) t = ap (λ (z : Desk). z.given) ((desk_holds {Gives = Gives}).refused_still t) ∙ omega arith
taking_tickets (Machine.ticket k) t = let h = (desk_holds {Gives = Gives}).tickets_count t in omega (arith, h.0, h.1)

pub run_tickets : {n k : ℕ} {d e : Desk} (run : Run Gives n d k e) → e.given ≡ d.given + total ticket_by (reports run)
unfolding reports total ticket_by
run_tickets nothing = omega arith
run_tickets (take_in {p = p} {r = r} run t) = omega (arith, total_then ticket_by (reports run) (taking_in p r), run_tickets run, taking_tickets r t)
run_tickets (one_step_is {r = r} run t) = omega (arith, total_then ticket_by (reports run) (stepping r), run_tickets run, desk_holds.steps_give_none t)
run_tickets (collect {number = number} {before = before} {after = after} {r = r} run t) =
    omega (arith, total_then ticket_by (reports run) (collecting number before r after), run_tickets run, (desk_holds {Gives = Gives}).collecting_gives_none t)

-- ---- what some call shows, some report says

unfoldable pub SomeTold : (Report → Type 0) → List Report → Type 0
SomeTold Q [] = ⊥
SomeTold Q (r ∷ told) = Q r ⊎ SomeTold Q told

module _ (Q : Report → Type 0) where
  pub some_still : (told : List Report) (r : Report) → SomeTold Q told → SomeTold Q (told ++ (r ∷ []))
  unfolding SomeTold
  some_still [] r h = absurd h
  some_still (x ∷ told) r h = ⊎_elim (λ e. inl e) (λ g. inr (some_still told r g)) h

  pub some_last : (told : List Report) (r : Report) → Q r → SomeTold Q (told ++ (r ∷ []))
  unfolding SomeTold
  some_last [] r e = inl e
  some_last (x ∷ told) r e = inr (some_last told r e)

  pub some_split : (told : List Report) (r : Report) → SomeTold Q (told ++ (r ∷ [])) → SomeTold Q told ⊎ Q r
  unfolding SomeTold
  some_split [] r h = ⊎_elim (λ e. inr e) (λ g. absurd g) h
  some_split (x ∷ told) r h = ⊎_elim (λ e. inl (inl e)) (λ g. ⊎_elim (λ f. inl (inr f)) (λ e. inr e) (some_split told r g)) h

  module _ (P : Seen → Type 0) where
    pub seen_some : ((x : Seen) (r : Report) → SeenAs x r → Q r → P x) → {seen : List Seen} {told : List Report} → AllSeen seen told → SomeTold Q told → Some P seen
    unfolding SomeTold Some
    seen_some same AllSeen.none h = absurd h
    seen_some same (AllSeen.more s all) h = ⊎_elim (λ e. inl (same _ _ s e)) (λ g. inr (seen_some same all g)) h

    pub told_some : ((x : Seen) (r : Report) → SeenAs x r → P x → Q r) → {seen : List Seen} {told : List Report} → AllSeen seen told → Some P seen → SomeTold Q told
    unfolding SomeTold Some
    told_some same AllSeen.none h = absurd h
    told_some same (AllSeen.more s all) h = ⊎_elim (λ e. inl (same _ _ s e)) (λ g. inr (told_some same all g)) h

-- A ticket reported as answered.
unfoldable pub DoneBy : ℕ → Report → Type 0
DoneBy number (taking_in p r) = ⊥
DoneBy number (stepping r) = r ≡ Machine.done number
DoneBy number (collecting other before r after) = ⊥

pub run_done : (number : ℕ) {n k : ℕ} {d e : Desk} (run : Run Gives n d k e) → Reported number run → SomeTold (DoneBy number) (reports run)
unfolding reports Reported DoneBy
run_done number nothing h = absurd h
run_done number (take_in run t) h = some_still (DoneBy number) (reports run) _ (run_done number run h)
run_done number (one_step_is run t) h = ⊎_elim (λ g. some_still (DoneBy number) (reports run) _ (run_done number run g)) (λ e. some_last (DoneBy number) (reports run) _ e) h
run_done number (collect run t) h = some_still (DoneBy number) (reports run) _ (run_done number run h)

pub done_run : (number : ℕ) {n k : ℕ} {d e : Desk} (run : Run Gives n d k e) → SomeTold (DoneBy number) (reports run) → Reported number run
unfolding reports Reported DoneBy SomeTold
done_run number nothing h = absurd h
done_run number (take_in run t) h = ⊎_elim (λ g. done_run number run g) (λ e. absurd e) (some_split (DoneBy number) (reports run) _ h)
done_run number (one_step_is run t) h = ⊎_elim (λ g. inl (done_run number run g)) (λ e. inr e) (some_split (DoneBy number) (reports run) _ h)
done_run number (collect run t) h = ⊎_elim (λ g. done_run number run g) (λ e. absurd e) (some_split (DoneBy number) (reports run) _ h)

pub done_step : {number : ℕ} {x : Seen} → SeenAs x (stepping (Machine.done number)) → ReportsDone number x
done_step (SeenAs.tried Tells.done) = refl

pub done_seen : (number : ℕ) (x : Seen) (r : Report) → SeenAs x r → DoneBy number r → ReportsDone number x
unfolding DoneBy
done_seen number x (taking_in p r) s h = absurd h
done_seen number x (stepping r) s h = done_step (subst (λ (z : Machine.Stepped). SeenAs x (stepping z)) h s)
done_seen number x (collecting other before r after) s h = absurd h

-- Number and ticket of a step.
unfoldable pub step_number : Seen → ℕ
step_number (took_in p number told) = 0
step_number (stepped number told) = number
step_number (collected ticket before number after) = 0

unfoldable pub step_ticket : Seen → ℕ
step_ticket (took_in p number told) = 0
step_ticket (stepped number told) = told
step_ticket (collected ticket before number after) = 0

pub seen_told : (number : ℕ) (x : Seen) (r : Report) → SeenAs x r → ReportsDone number x → DoneBy number r
unfolding step_number step_ticket DoneBy
seen_told number x r SeenAs.ticket e = absurd (let z : 0 ≡ done_number = ap step_number e in omega arith)
seen_told number x r (SeenAs.not_taken l) e = absurd (let z : 0 ≡ done_number = ap step_number e in omega arith)
seen_told number x r SeenAs.idle e = absurd (let z : 0 ≡ done_number = ap step_number e in omega arith)
seen_told number x r (SeenAs.tried Tells.goes_on) e = absurd (let z : goes_on_number ≡ done_number = ap step_number e in omega arith)
seen_told number x r (SeenAs.tried Tells.done) e = ap (λ (k : ℕ). Machine.done k) (ap step_ticket e)
seen_told number x r (SeenAs.not_collected l m) e = absurd (let z : 0 ≡ done_number = ap step_number e in omega arith)
seen_told number x r SeenAs.still_waits e = absurd (let z : 0 ≡ done_number = ap step_number e in omega arith)
seen_told number x r (SeenAs.handed l) e = absurd (let z : 0 ≡ done_number = ap step_number e in omega arith)

-- An answer handed over.
unfoldable pub HandsBy : ℕ → Report → Type 0
HandsBy number (taking_in p r) = ⊥
HandsBy number (stepping r) = ⊥
HandsBy number (collecting other before r after) = Laws.HandsOver number other r

pub run_hands : (number : ℕ) {n k : ℕ} {d e : Desk} (run : Run Gives n d k e) → Laws.HandedOver number run → SomeTold (HandsBy number) (reports run)
unfolding reports Laws.HandedOver HandsBy
run_hands number nothing h = absurd h
run_hands number (take_in run t) h = some_still (HandsBy number) (reports run) _ (run_hands number run h)
run_hands number (one_step_is run t) h = some_still (HandsBy number) (reports run) _ (run_hands number run h)
run_hands number (collect run t) h = ⊎_elim (λ g. some_still (HandsBy number) (reports run) _ (run_hands number run g)) (λ e. some_last (HandsBy number) (reports run) _ e) h

pub hands_run : (number : ℕ) {n k : ℕ} {d e : Desk} (run : Run Gives n d k e) → SomeTold (HandsBy number) (reports run) → Laws.HandedOver number run
unfolding reports Laws.HandedOver HandsBy SomeTold
hands_run number nothing h = absurd h
hands_run number (take_in run t) h = ⊎_elim (λ g. hands_run number run g) (λ e. absurd e) (some_split (HandsBy number) (reports run) _ h)
hands_run number (one_step_is run t) h = ⊎_elim (λ g. hands_run number run g) (λ e. absurd e) (some_split (HandsBy number) (reports run) _ h)
hands_run number (collect run t) h = ⊎_elim (λ g. inl (hands_run number run g)) (λ e. inr e) (some_split (HandsBy number) (reports run) _ h)

pub hands_told : (number : ℕ) (x : Seen) (r : Report) → SeenAs x r → HandsOver number x → HandsBy number r
unfolding HandsBy HandsOver Laws.HandsOver
hands_told number x r SeenAs.ticket h = absurd h
hands_told number x r (SeenAs.not_taken l) h = absurd h
hands_told number x r SeenAs.idle h = absurd h
hands_told number x r (SeenAs.tried t) h = absurd h
hands_told number x r (SeenAs.not_collected l m) h = absurd (omega (arith, h.1))
hands_told number x r SeenAs.still_waits h = absurd (omega (arith, h.1))
hands_told number x r (SeenAs.handed l) h = h.0

pub hands_seen : (number : ℕ) (x : Seen) (r : Report) → SeenAs x r → HandsBy number r → HandsOver number x
unfolding HandsBy HandsOver Laws.HandsOver
hands_seen number x r SeenAs.ticket h = absurd h
hands_seen number x r (SeenAs.not_taken l) h = absurd h
hands_seen number x r SeenAs.idle h = absurd h
hands_seen number x r (SeenAs.tried t) h = absurd h
hands_seen number x r (SeenAs.not_collected l m) h = absurd h
hands_seen number x r SeenAs.still_waits h = absurd h
hands_seen number x r (SeenAs.handed l) h = (h, omega arith)

-- The number of a collection's answer.
pub waits_number : {ticket asked number : ℕ} {before had after left : List ℕ} → SeenAs (collected ticket before number after) (collecting asked had Machine.still_waits left) → number ≡ 0
waits_number SeenAs.still_waits = refl

pub refused_number : {ticket asked number k : ℕ} {before had after left : List ℕ} → SeenAs (collected ticket before number after) (collecting asked had (Machine.Collected.refused k) left)
    → number ≡ k
refused_number (SeenAs.not_collected l m) = refl

pub handed_number_lem : {ticket asked number class own size : ℕ} {span : Trop} {before had after left : List ℕ}
    → SeenAs (collected ticket before number after) (collecting asked had (Machine.collected class span own size) left)
    → (number ≡ handed_number class own) × (256 ≤ number)
handed_number_lem (SeenAs.handed l) = (refl, omega arith)

-- A collection whose number is 256 or more handed an answer over.
pub record HandedAs (number : ℕ) (r : Machine.Collected) : Type 0 where
  pub class : ℕ
  pub own : ℕ
  pub size : ℕ
  pub span : Trop
  pub report : r ≡ Machine.collected class span own size
  pub number_is : number ≡ handed_number class own

pub handed_as : {ticket asked number : ℕ} {before had after left : List ℕ} {r : Machine.Collected}
    → SeenAs (collected ticket before number after) (collecting asked had r left) → 256 ≤ number → HandedAs number r
handed_as (SeenAs.not_collected l m) h = absurd (omega arith)
handed_as SeenAs.still_waits h = absurd (omega arith)
handed_as (SeenAs.handed {class = class} {own = own} {size = size} {span = span} l) h =
    record { class = class; own = own; size = size; span = span; report = refl; number_is = refl }
