-- Each call has one answer: what it answers and leaves is settled by what it gets; of a step, where the engine gives one answer for a problem.
use Prim.Native.Nat.{ℕ, suc, ◌≤◌, ◌<◌}
use mathlib.Core.Path.{◌≡◌, refl, sym, ap, subst, ◌∙◌}
use mathlib.Core.Logic.{⊎_elim}
use mathlib.Core.Bool.{Bool, cond}
use mathlib.Core.List.{List, [], ◌∷◌, ◌++◌}
use native.Mathlib.Omega.{arith}
use borrow.Author.Tests.{lt-ltb}
use lib.ListN.{length, set}
use Rattle.base.proofs.Numbers.{nat_le_or_lt}
use Rattle.definitions.specs.Limits.{desk_memory, answer_most, refused_ticket, refused_room, refused_memory}
use Rattle.definitions.specs.Tropical.{Trop}
use Rattle.definitions.specs.Bytes.{first}
use Rattle.definitions.specs.ProblemRecord.{problem_of, meant, n_field, m_field}
use Rattle.definitions.specs.AnswerRecord.{Answer, answer_size, answer_bytes, written}
use Rattle.definitions.specs.Solved.{Found, Giving, OneValued}
use Rattle.definitions.specs.Desk.{memory_refused, Place, empty, waits, answered, Desk, place_at, Stands, ticket_of, FirstEmpty, Opening, Opens, TakenIn, TakesIn, taken, take_refusal, Stepped, Steps, one_more, last_one, NotHeld, Collected, Collects, handed_over, FromOpening}
use Rattle.definitions.specs.DeskLaws.{TellsWaiting, NoneWaiting, OneOutcome}
use Rattle.definitions.specs.Desk as Desks
use Rattle.definitions.proofs.Refusals.{or_else_suc, or_else_none}
use Rattle.duality.proofs.Classes.{found_one}
use Rattle.tickets.proofs.Sound.{empty_not_waits, empty_not_answered, answered_not_waits, same_number, same_problem, same_own, from_opening_sound}
use Rattle.tickets.proofs.Tickets.{from_opening_apart}

-- ---- opening and taking in

opening_one : {memory : ℕ} {r q : Opening} {d e : Desk} → Opens memory r d → Opens memory q e → (r ≡ q) × (r ≡ Desks.ready → d ≡ e)
opening_one (Desks.Opens.turned_away h) (Desks.Opens.turned_away g) = (ap (λ (z : ℕ). Desks.Opening.refused z) (sym h ∙ g), λ e. absurd (let z : ◌≡◌ {A = ℕ} 0 1 = cc in omega arith))
opening_one (Desks.Opens.turned_away h) (Desks.Opens.opens g) = absurd (omega arith)
opening_one (Desks.Opens.opens h) (Desks.Opens.turned_away g) = absurd (omega arith)
opening_one (Desks.Opens.opens h) (Desks.Opens.opens g) = (refl, λ _. refl)

-- The first empty place is one.
first_one : {d : Desk} {i k : ℕ} → FirstEmpty d i → FirstEmpty d k → i ≡ k
first_one {d} {i} {k} f g = ⊎_elim (λ (l : i ≤ k). ⊎_elim (λ (m : k ≤ i). omega arith) (λ (m : i < k). absurd (g.before i m f.is_empty)) (nat_le_or_lt k i)) (λ (l : k < i). absurd (f.before k l g.is_empty)) (nat_le_or_lt i k)

taking_one : {memory : ℕ} {d e f : Desk} {p : List ℕ} {r q : TakenIn} → TakesIn memory d p r e → TakesIn memory d p q f → (r ≡ q) × (e ≡ f)
taking_one (Desks.TakesIn.turned_away h) (Desks.TakesIn.turned_away g) = (ap (λ (z : ℕ). Desks.TakenIn.refused z) (sym h ∙ g), refl)
taking_one (Desks.TakesIn.turned_away h) (taken g f) = absurd (omega arith)
taking_one (taken h f) (Desks.TakesIn.turned_away g) = absurd (omega arith)
taking_one {d = d} {p = p} (taken h f) (taken g l) = (refl, ap entered (first_one f l))
  where
    entered : ℕ → Desk
    entered i = record { given = suc d.given; line = d.line ++ (i ∷ []); places = set d.places i (waits (suc d.given) (meant p) 0) }

-- ---- a step

unfoldable head_in : List ℕ → ℕ
head_in [] = 0
head_in (i ∷ rest) = i

unfoldable tail_in : List ℕ → List ℕ
tail_in [] = []
tail_in (i ∷ rest) = rest

-- What waits at the head of the line is one.
record SameHead (i k : ℕ) (rest tail : List ℕ) (number n own o : ℕ) (problem p : List ℕ) : Type 0 where
  place : i ≡ k
  others : rest ≡ tail
  ticket : number ≡ n
  asked : problem ≡ p
  made : own ≡ o

same_head : {d : Desk} {i k number n own o : ℕ} {rest tail problem p : List ℕ} → d.line ≡ i ∷ rest → d.line ≡ k ∷ tail → Stands d i (waits number problem own) → Stands d k (waits n p o)
    → SameHead i k rest tail number n own o problem p
unfolding head_in tail_in
same_head {d} h g st other =
    let z = sym h ∙ g in
    let e = ap head_in z in
    let same = sym st.is ∙ ap (λ (j : ℕ). place_at d j) e ∙ other.is in
    record { place = e; others = ap tail_in z; ticket = same_number same; asked = same_problem same; made = same_own same }

no_head : {l rest : List ℕ} {i : ℕ} → l ≡ [] → l ≡ i ∷ rest → ⊥
no_head e h = let z : ◌≡◌ {A = ℕ} 0 1 = cc in omega arith

-- With as many trials to make, one and the other are not the last.
not_last : {own o class trials c t : ℕ} {span s : Trop} {problem p : List ℕ} → Found (problem_of problem) class span trials → suc own < trials → Found (problem_of p) c s t → suc o ≡ t
    → problem ≡ p → own ≡ o → ⊥
not_last {c = c} {t = t} {s = s} found more other last asked made =
    let same = subst (λ (q : List ℕ). Found (problem_of q) c s t) (sym asked) other in
    omega (arith, (found_one found same).2)

stepping_one : {Gives : Giving} {memory : ℕ} {d e f : Desk} {r q : Stepped} → OneValued Gives → Steps Gives memory d r e → Steps Gives memory d q f
    → (r ≡ q) × (e ≡ f)
stepping_one v (Desks.Steps.turned_away h) (Desks.Steps.turned_away g) = (ap (λ (z : ℕ). Desks.Stepped.refused z) (sym h ∙ g), refl)
stepping_one v (Desks.Steps.turned_away h) (Desks.Steps.idle g l) = absurd (omega arith)
stepping_one v (Desks.Steps.turned_away h) (one_more g l st f m) = absurd (omega arith)
stepping_one v (Desks.Steps.turned_away h) (last_one g l st e a gave) = absurd (omega arith)
stepping_one v (Desks.Steps.idle h none) (Desks.Steps.turned_away g) = absurd (omega arith)
stepping_one v (Desks.Steps.idle h none) (Desks.Steps.idle g l) = (refl, refl)
stepping_one v (Desks.Steps.idle h none) (one_more g l st f m) = absurd (no_head none l)
stepping_one v (Desks.Steps.idle h none) (last_one g l st e a gave) = absurd (no_head none l)
stepping_one v (one_more h head st found more) (Desks.Steps.turned_away g) = absurd (omega arith)
stepping_one v (one_more h head st found more) (Desks.Steps.idle g none) = absurd (no_head none head)
stepping_one {d = d} v (one_more {i = i} {number = number} {own = own} {problem = problem} {rest = rest} h head st found more) (one_more {i = k} {number = n} {own = o} {problem = p} {rest = tail} g l there f m) =
    let s = same_head head l st there in
    (ap (λ (z : ℕ). Desks.goes_on z) s.ticket, same s.place s.others s.ticket s.asked s.made)
  where
    same : i ≡ k → rest ≡ tail → number ≡ n → problem ≡ p → own ≡ o
        → ◌≡◌ {A = Desk} (record { given = d.given; line = rest ++ (i ∷ []); places = set d.places i (waits number problem (suc own)) })
        (record { given = d.given; line = tail ++ (k ∷ []); places = set d.places k (waits n p (suc o)) })
    same a b c e f = cc
stepping_one v (one_more h head st found more) (last_one g l there last ans gave) = let s = same_head head l st there in absurd (not_last found more ans.found last s.asked s.made)
stepping_one v (last_one h head st last ans gave) (Desks.Steps.turned_away g) = absurd (omega arith)
stepping_one v (last_one h head st last ans gave) (Desks.Steps.idle g none) = absurd (no_head none head)
stepping_one v (last_one h head st last ans gave) (one_more g l there found more) = let s = same_head l head there st in absurd (not_last found more ans.found last s.asked s.made)
stepping_one {Gives = Gives} {d = d} v (last_one {i = i} {number = number} {own = own} {class = class} {trials = trials} {span = span} {problem = problem} {rest = rest} {a = a} h head st last ans gave) (last_one {i = k} {number = n} {own = o} {class = c} {trials = t} {span = z} {problem = p} {rest = tail} {a = b} g l there end other told) =
    let s = same_head head l st there in
    let f = found_one ans.found (subst (λ (q : List ℕ). Found (problem_of q) c z t) (sym s.asked) other.found) in
    (ap (λ (z : ℕ). Desks.done z) s.ticket, same s.place s.others s.ticket s.asked f.0 f.1 f.2 (v.one problem a b gave (subst (λ (q : List ℕ). Gives q b) (sym s.asked) told)))
  where
    same : i ≡ k → rest ≡ tail → number ≡ n → problem ≡ p → class ≡ c → span ≡ z → trials ≡ t → a ≡ b
        → ◌≡◌ {A = Desk} (record { given = d.given; line = rest; places = set d.places i (answered number problem class span trials a) })
        (record { given = d.given; line = tail; places = set d.places k (answered n p c z t b) })
    same e₁ e₂ e₃ e₄ e₅ e₆ e₇ e₈ = cc

-- ---- collecting

-- What handing over a place answers, and the record.
unfoldable handing : Place → Collected
handing empty = Desks.still_waits
handing (waits number problem own) = Desks.still_waits
handing (answered number problem class span own a) = Desks.collected class span own (answer_size class (n_field problem) (m_field problem))

unfoldable record_held : Place → List ℕ
record_held empty = []
record_held (waits number problem own) = []
record_held (answered number problem class span own a) = answer_bytes (n_field problem) a

-- A ticket stands at one place, and what stands there is one.
one_place : {Gives : Giving} {memory number i k : ℕ} {d : Desk} {p q : Place} → FromOpening Gives memory d → Stands d i p → Stands d k q → (p ≡ empty → ⊥) → (q ≡ empty → ⊥) → ticket_of p ≡ number → ticket_of q ≡ number
    → (i ≡ k) × (p ≡ q)
one_place {i = i} {k = k} {d = d} o st there a b e f =
    let z = (from_opening_apart o).apart i k (λ z. a (sym st.is ∙ z)) (λ z. b (sym there.is ∙ z)) (ap ticket_of st.is ∙ e ∙ sym f ∙ sym (ap ticket_of there.is)) in
    (z, sym st.is ∙ ap (λ (j : ℕ). place_at d j) z ∙ there.is)

module _ {memory number : ℕ} {d : Desk} {Gives : Giving} (o : FromOpening Gives memory d) where
  -- A ticket that waits is not answered, and one that is held is not missing.
  waits_not_answered : {i k own class made : ℕ} {span : Trop} {problem p : List ℕ} {a : Answer} → Stands d i (waits number problem own)
      → Stands d k (answered number p class span made a) → ⊥
  unfolding ticket_of
  waits_not_answered st there = answered_not_waits (sym (one_place o st there (λ z. empty_not_waits (sym z)) (λ z. empty_not_answered (sym z)) refl refl).1)

  waits_held : {i own : ℕ} {problem : List ℕ} → NotHeld d number → Stands d i (waits number problem own) → ⊥
  unfolding ticket_of
  waits_held {i} n st = n i (λ z. empty_not_waits (sym z ∙ st.is)) (ap ticket_of st.is)

  answered_held : {i class own : ℕ} {span : Trop} {problem : List ℕ} {a : Answer} → NotHeld d number → Stands d i (answered number problem class span own a) → ⊥
  unfolding ticket_of
  answered_held {i} n st = n i (λ z. empty_not_answered (sym z ∙ st.is)) (ap ticket_of st.is)

  collecting_one : {e f : Desk} {buffer after other : List ℕ} {r q : Collected} → Collects memory d number buffer r e after → Collects memory d number buffer q f other
      → (r ≡ q) × (e ≡ f) × (after ≡ other)
  unfolding ticket_of handing record_held
  collecting_one (Desks.Collects.turned_away h) (Desks.Collects.turned_away g) = (ap (λ (z : ℕ). Desks.Collected.refused z) (sym h ∙ g), refl, refl)
  collecting_one (Desks.Collects.turned_away h) (Desks.Collects.no_such_ticket g n) = absurd (omega arith)
  collecting_one (Desks.Collects.turned_away h) (Desks.Collects.waits_yet g there) = absurd (omega arith)
  collecting_one (Desks.Collects.turned_away h) (Desks.Collects.short_buffer g there b) = absurd (omega arith)
  collecting_one (Desks.Collects.turned_away h) (handed_over g there b) = absurd (omega arith)
  collecting_one (Desks.Collects.no_such_ticket h n) (Desks.Collects.turned_away g) = absurd (omega arith)
  collecting_one (Desks.Collects.no_such_ticket h n) (Desks.Collects.no_such_ticket g m) = (refl, refl, refl)
  collecting_one (Desks.Collects.no_such_ticket h n) (Desks.Collects.waits_yet g there) = absurd (waits_held n there)
  collecting_one (Desks.Collects.no_such_ticket h n) (Desks.Collects.short_buffer g there b) = absurd (answered_held n there)
  collecting_one (Desks.Collects.no_such_ticket h n) (handed_over g there b) = absurd (answered_held n there)
  collecting_one (Desks.Collects.waits_yet h st) (Desks.Collects.turned_away g) = absurd (omega arith)
  collecting_one (Desks.Collects.waits_yet h st) (Desks.Collects.no_such_ticket g n) = absurd (waits_held n st)
  collecting_one (Desks.Collects.waits_yet h st) (Desks.Collects.waits_yet g there) = (refl, refl, refl)
  collecting_one (Desks.Collects.waits_yet h st) (Desks.Collects.short_buffer g there b) = absurd (waits_not_answered st there)
  collecting_one (Desks.Collects.waits_yet h st) (handed_over g there b) = absurd (waits_not_answered st there)
  collecting_one (Desks.Collects.short_buffer h st l) (Desks.Collects.turned_away g) = absurd (omega arith)
  collecting_one (Desks.Collects.short_buffer h st l) (Desks.Collects.no_such_ticket g n) = absurd (answered_held n st)
  collecting_one (Desks.Collects.short_buffer h st l) (Desks.Collects.waits_yet g there) = absurd (waits_not_answered there st)
  collecting_one (Desks.Collects.short_buffer h st l) (Desks.Collects.short_buffer g there b) = (refl, refl, refl)
  collecting_one (Desks.Collects.short_buffer h st l) (handed_over g there b) = absurd (omega arith)
  collecting_one (handed_over h st l) (Desks.Collects.turned_away g) = absurd (omega arith)
  collecting_one (handed_over h st l) (Desks.Collects.no_such_ticket g n) = absurd (answered_held n st)
  collecting_one (handed_over h st l) (Desks.Collects.waits_yet g there) = absurd (waits_not_answered there st)
  collecting_one (handed_over h st l) (Desks.Collects.short_buffer g there b) = absurd (omega arith)
  collecting_one {buffer = buffer} (handed_over h st l) (handed_over g there b) =
      let s = one_place o st there (λ z. empty_not_answered (sym z)) (λ z. empty_not_answered (sym z)) refl refl in
      (ap handing s.1, ap freed s.0, ap (λ (p : Place). written buffer (record_held p)) s.1)
    where
      freed : ℕ → Desk
      freed i = record { given = d.given; line = d.line; places = set d.places i empty }

-- What a call answers and leaves is one.
pub one_outcome : {Gives : Giving} → OneOutcome Gives
one_outcome = record {
  opening = opening_one;
  taking_in = taking_one;
  stepping = stepping_one;
  collecting = λ o one two. collecting_one o one two;
}

-- ---- a ticket that still waits, and a step with none waiting

pub waiting_still : {Gives : Giving} {memory number i own : ℕ} {problem : List ℕ} {d e : Desk} {before after : List ℕ} {r : Collected} → FromOpening Gives memory d
    → first (memory_refused memory ∷ []) ≡ 0 → Stands d i (waits number problem own) → Collects memory d number before r e after
    → (r ≡ Desks.still_waits) × (e ≡ d) × (after ≡ before)
waiting_still o h st c = collecting_one o c (Desks.Collects.waits_yet h st)

pub idle_still : {Gives : Giving} {memory : ℕ} {d e : Desk} {r : Stepped} → first (memory_refused memory ∷ []) ≡ 0 → NoneWaiting d → Steps Gives memory d r e
    → (r ≡ Desks.none_waits) × (e ≡ d)
idle_still h none (Desks.Steps.turned_away g) = absurd (omega arith)
idle_still h none (Desks.Steps.idle g l) = (refl, refl)
idle_still h none (one_more {i = i} {number = number} {own = own} {problem = problem} g l st f m) = absurd (none i number own problem st)
idle_still h none (last_one {i = i} {number = number} {own = own} {problem = problem} g l st e a gave) = absurd (none i number own problem st)

-- ---- a ticket that is not held, and one that is answered

pub unheld_still : {Gives : Giving} {memory number : ℕ} {d e : Desk} {before after : List ℕ} {r : Collected} → FromOpening Gives memory d → first (memory_refused memory ∷ []) ≡ 0 → NotHeld d number
    → Collects memory d number before r e after → (r ≡ Desks.Collected.refused refused_ticket) × (e ≡ d) × (after ≡ before)
unheld_still o h n c = collecting_one o c (Desks.Collects.no_such_ticket h n)

module _ {memory number i class own : ℕ} {span : Trop} {problem : List ℕ} {a : Answer} {d e : Desk} {before after : List ℕ} {r : Collected} {Gives : Giving} (o : FromOpening Gives memory d)
    (h : first (memory_refused memory ∷ []) ≡ 0) (st : Stands d i (answered number problem class span own a)) where
  pub handed_so : answer_most ≤ length before → Collects memory d number before r e after
      → (r ≡ Desks.collected class span own (answer_size class (n_field problem) (m_field problem))) × (after ≡ written before (answer_bytes (n_field problem) a))
  handed_so room c = let s = collecting_one o c (handed_over h st room) in (s.0, s.2)

  pub short_still : length before < answer_most → Collects memory d number before r e after → (r ≡ Desks.Collected.refused refused_room) × (e ≡ d) × (after ≡ before)
  short_still room c = collecting_one o c (Desks.Collects.short_buffer h st room)

-- ---- a refusal changes nothing

pub refused_taking : {memory k : ℕ} {d e : Desk} {p : List ℕ} → TakesIn memory d p (Desks.TakenIn.refused k) e → e ≡ d
refused_taking (Desks.TakesIn.turned_away h) = refl

pub refused_collects : {memory number k : ℕ} {d e : Desk} {before after : List ℕ} → Collects memory d number before (Desks.Collected.refused k) e after → (e ≡ d) × (after ≡ before)
refused_collects (Desks.Collects.turned_away h) = (refl, refl)
refused_collects (Desks.Collects.no_such_ticket h n) = (refl, refl)
refused_collects (Desks.Collects.short_buffer h st b) = (refl, refl)

pub refused_steps : {Gives : Giving} {memory k : ℕ} {d e : Desk} → Steps Gives memory d (Desks.Stepped.refused k) e → e ≡ d
refused_steps (Desks.Steps.turned_away h) = refl

-- ---- 23 comes first

memory_short : (memory : ℕ) → memory < desk_memory → first (memory_refused memory ∷ []) ≡ refused_memory
memory_short memory h = ap (λ (b : Bool). cond b refused_memory 0) (lt-ltb memory desk_memory h)

pub taking_short : {memory : ℕ} {d e : Desk} {p : List ℕ} {r : TakenIn} → memory < desk_memory → TakesIn memory d p r e → (r ≡ Desks.TakenIn.refused refused_memory) × (e ≡ d)
unfolding take_refusal
taking_short {memory} h (Desks.TakesIn.turned_away g) =
    let z = memory_short memory h in
    (ap (λ (k : ℕ). Desks.TakenIn.refused k) (sym g ∙ or_else_suc (first (memory_refused memory ∷ [])) _ (omega (arith, z)) ∙ z), refl)
taking_short {memory} h (taken g f) = let z = memory_short memory h in absurd (omega (arith, ((or_else_none (first (memory_refused memory ∷ [])) _).0 g).0, z))

pub step_short : {Gives : Giving} {memory : ℕ} {d e : Desk} {r : Stepped} → memory < desk_memory → Steps Gives memory d r e → (r ≡ Desks.Stepped.refused refused_memory) × (e ≡ d)
step_short {memory} h (Desks.Steps.turned_away g) = (ap (λ (k : ℕ). Desks.Stepped.refused k) (sym g ∙ memory_short memory h), refl)
step_short {memory} h (Desks.Steps.idle g l) = absurd (omega (arith, memory_short memory h))
step_short {memory} h (one_more g l st f m) = absurd (omega (arith, memory_short memory h))
step_short {memory} h (last_one g l st e a gave) = absurd (omega (arith, memory_short memory h))

pub collecting_short : {memory number : ℕ} {d e : Desk} {before after : List ℕ} {r : Collected} → memory < desk_memory → Collects memory d number before r e after
    → (r ≡ Desks.Collected.refused refused_memory) × (e ≡ d) × (after ≡ before)
collecting_short {memory} h (Desks.Collects.turned_away g) = (ap (λ (k : ℕ). Desks.Collected.refused k) (sym g ∙ memory_short memory h), refl, refl)
collecting_short {memory} h (Desks.Collects.no_such_ticket g n) = absurd (omega (arith, memory_short memory h))
collecting_short {memory} h (Desks.Collects.waits_yet g st) = absurd (omega (arith, memory_short memory h))
collecting_short {memory} h (Desks.Collects.short_buffer g st b) = absurd (omega (arith, memory_short memory h))
collecting_short {memory} h (handed_over g st b) = absurd (omega (arith, memory_short memory h))

-- ---- where somebody waits

pub busy : {Gives : Giving} {memory i number own : ℕ} {d e : Desk} {problem : List ℕ} {r : Stepped} → FromOpening Gives memory d → first (memory_refused memory ∷ []) ≡ 0 → Stands d i (waits number problem own)
    → Steps Gives memory d r e → TellsWaiting d r
unfolding TellsWaiting
busy o h st (Desks.Steps.turned_away g) = absurd (omega arith)
busy {number = number} {own = own} {problem = problem} o h st (Desks.Steps.idle g l) =
    let place = (from_opening_sound o).line.all (record { number = number; problem = problem; own = own; there = st }) in
    absurd (omega (arith, place.there.inside, ap (λ (k : List ℕ). length k) l))
busy o h st (one_more {i = i} {own = own} {problem = problem} g l there f m) = (problem, record { place = i; own = own; there = there })
busy o h st (last_one {i = i} {own = own} {problem = problem} g l there e a gave) = (problem, record { place = i; own = own; there = there })
