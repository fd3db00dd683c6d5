-- How many places are held; and an answer stays at its place until it is handed over.
use Prim.Native.Nat.{ℕ, zero, suc, ◌≤◌, ◌<◌}
use mathlib.Core.Path.{◌≡◌, refl, sym, ap, subst, ◌∙◌}
use mathlib.Core.Logic.{◌⊎◌, inl, inr, ⊎_elim}
use mathlib.Core.List.{List, [], ◌∷◌}
use native.Mathlib.Omega.{arith}
use native.Mathlib.Decide.{ℕ_discrete}
use native.Mathlib.Nat.{eq-zero-or-pos}
use lib.ListN.{length, get_or, length-set}
use borrow.Author.Tests.{eq-eqb, ne_eqb, lt-leb}
use Rattle.definitions.specs.Limits.{desk_places, last_ticket}
use Rattle.definitions.specs.Tropical.{Trop}
use Rattle.definitions.specs.AnswerRecord.{Answer}
use Rattle.definitions.specs.ProblemRecord.{meant}
use Rattle.definitions.specs.Bytes.{first}
use Rattle.definitions.specs.Solved.{Giving}
use Rattle.definitions.specs.Desk.{memory_refused, full_refused, WithinDesk, take_refusal, Place, empty, answered, Desk, place_at, Stands, ticket_of, held, TakenIn, TakesIn, taken, Stepped, Steps, one_more, last_one, Collected, Collects, handed_over, Run, nothing, take_in, one_step_is, collect, FromOpening}
use Rattle.definitions.specs.DeskLaws.{Reported, HandsOver, HandedOver, HeldAnswered}
use Rattle.definitions.specs.Desk as Desks
use Rattle.tickets.proofs.Sound.{Sound, empty_not_answered, answered_not_waits, beyond_empty, waiting_inside, moved, here, elsewhere, sound_taken, sound_run, from_opening_sound}
use Rattle.tickets.proofs.Tickets.{answered_mine}

-- ---- how many places are held

-- With an empty place fewer are held than there are, without one all are.
held_few : (places : List Place) → held places ≤ length places
unfolding held
held_few [] = omega arith
held_few (p ∷ places) = ⊎_elim
    (λ (e : ticket_of p ≡ 0). rw (eq-eqb (ticket_of p) 0 e) (omega (arith, held_few places)))
    (λ (h : 0 < ticket_of p). rw (ne_eqb (ticket_of p) 0 (λ e. omega arith)) (omega (arith, held_few places)))
    (eq-zero-or-pos (ticket_of p))

pub held_less : (places : List Place) (i : ℕ) → i < length places → ticket_of (get_or places i empty) ≡ 0 → held places < length places
unfolding held
held_less [] i h e = absurd (omega arith)
held_less (p ∷ places) zero h e = rw (eq-eqb (ticket_of p) 0 e) (omega (arith, held_few places))
held_less (p ∷ places) (suc i) h e =
    let less = held_less places i (omega arith) e in
    ⊎_elim
    (λ (z : ticket_of p ≡ 0). rw (eq-eqb (ticket_of p) 0 z) (omega arith))
    (λ (z : 0 < ticket_of p). rw (ne_eqb (ticket_of p) 0 (λ e. omega arith)) (omega arith))
    (eq-zero-or-pos (ticket_of p))

pub held_all : (places : List Place) → ((i : ℕ) → i < length places → ticket_of (get_or places i empty) ≡ 0 → ⊥) → held places ≡ length places
unfolding held
held_all [] h = refl
held_all (p ∷ places) h =
    let rest = held_all places (λ i b e. h (suc i) (omega arith) e) in
    rw (ne_eqb (ticket_of p) 0 (λ e. h 0 (omega arith) e)) (omega arith)

-- With a place free and a ticket left there is no 21.
not_full : (d : Desk) → held d.places < desk_places → d.given < last_ticket → first (full_refused d) ≡ 0
not_full d h t = rw (lt-leb desk_places (held d.places) h, lt-leb last_ticket d.given t) refl

-- A place that was collected is usable again.
pub freed_usable : {Gives : Giving} {memory number class own size : ℕ} {span : Trop} {d e : Desk} {before after : List ℕ} → FromOpening Gives memory d
    → Collects memory d number before (Desks.collected class span own size) e after → e.given < last_ticket → first (full_refused e) ≡ 0
unfolding ticket_of
freed_usable {d = d} o (handed_over {i = i} h st b) t =
    let s = from_opening_sound o in
    let inside : i < desk_places = beyond_empty d i s.sixteen (λ z. empty_not_answered (sym z ∙ st.is)) in
    let n : Desk = moved d d.given d.line i empty in
    let sixteen : length n.places ≡ desk_places = length-set d.places i empty ∙ s.sixteen in
    let less = held_less n.places i (omega arith) (ap ticket_of (here d d.given d.line i empty s.sixteen inside)) in
    not_full n (omega arith) t

-- Where a place is empty and a ticket is left, a problem that the desk takes gets one.
pub room_ticket : {Gives : Giving} {memory i : ℕ} {d e : Desk} {p : List ℕ} {r : TakenIn} → FromOpening Gives memory d → first (memory_refused memory ∷ []) ≡ 0 → WithinDesk (meant p) → i < desk_places
    → place_at d i ≡ empty → d.given < last_ticket → TakesIn memory d p r e → r ≡ Desks.ticket (suc d.given)
unfolding take_refusal ticket_of
room_ticket {memory} {i} {d} {p = p} o enough within inside free left (Desks.TakesIn.turned_away h) =
    let s = from_opening_sound o in
    let less = held_less d.places i (omega (arith, s.sixteen)) (ap ticket_of free) in
    let none : take_refusal memory d p ≡ 0 = rw (enough, within) (not_full d (omega (arith, s.sixteen)) left) in
    absurd (omega (arith, none, h))
room_ticket o enough within inside free left (taken h f) = refl

-- ---- an answer stays until it is handed over

module _ {d : Desk} {i number class own : ℕ} {span : Trop} {problem : List ℕ} {a : Answer} (st : Stands d i (answered number problem class span own a)) where
  -- Where another place changed.
  stays_there : (given : ℕ) (line : List ℕ) (k : ℕ) (p : Place) → (i ≡ k → ⊥) → Stands (moved d given line k p) i (answered number problem class span own a)
  stays_there given line k p n = record { is = elsewhere d given line k p i n ∙ st.is }

  at_place : {k : ℕ} → i ≡ k → place_at d k ≡ answered number problem class span own a
  at_place e = ap (λ (z : ℕ). place_at d z) (sym e) ∙ st.is

  stays_taken : {memory : ℕ} {p : List ℕ} {e : Desk} {r : TakenIn} → TakesIn memory d p r e → Stands e i (answered number problem class span own a)
  stays_taken (Desks.TakesIn.turned_away h) = st
  stays_taken (taken {i = k} h f) = stays_there _ _ k _ (λ e. empty_not_answered (sym f.is_empty ∙ at_place e))

  stays_stepped : {Gives : Giving} {memory : ℕ} {e : Desk} {r : Stepped} → Steps Gives memory d r e → Stands e i (answered number problem class span own a)
  stays_stepped (Desks.Steps.turned_away h) = st
  stays_stepped (Desks.Steps.idle h empty-line) = st
  stays_stepped (one_more {i = k} h head w found more) = stays_there _ _ k _ (λ e. answered_not_waits (sym (at_place e) ∙ w.is))
  stays_stepped (last_one {i = k} h head w last ans gave) = stays_there _ _ k _ (λ e. answered_not_waits (sym (at_place e) ∙ w.is))

  stays_collected : {memory n : ℕ} {e : Desk} {before after : List ℕ} {r : Collected} → Collects memory d n before r e after
      → HandsOver number n r ⊎ Stands e i (answered number problem class span own a)
  unfolding HandsOver ticket_of
  stays_collected (Desks.Collects.turned_away h) = inr st
  stays_collected (Desks.Collects.no_such_ticket h n) = inr st
  stays_collected (Desks.Collects.waits_yet h w) = inr st
  stays_collected (Desks.Collects.short_buffer h w b) = inr st
  stays_collected {n = n} (handed_over {i = k} h w b) = at (ℕ_discrete i k)
    where
      at : Dec (i ≡ k) → (n ≡ number) ⊎ Stands (moved d d.given d.line k empty) i (answered number problem class span own a)
      at (yes e) = inl (ap ticket_of (sym w.is ∙ at_place e))
      at (no m) = inr (stays_there d.given d.line k empty m)

pub kept_or_handed : {Gives : Giving} {memory : ℕ} {d e : Desk} {i number class own k : ℕ} {span : Trop} {problem : List ℕ} {a : Answer}
    → Stands d i (answered number problem class span own a) → (run : Run Gives memory d k e) → HandedOver number run ⊎ Stands e i (answered number problem class span own a)
unfolding HandedOver
kept_or_handed st nothing = inr st
kept_or_handed st (take_in run t) = ⊎_elim (λ h. inl h) (λ now. inr (stays_taken now t)) (kept_or_handed st run)
kept_or_handed st (one_step_is run t) = ⊎_elim (λ h. inl h) (λ now. inr (stays_stepped now t)) (kept_or_handed st run)
kept_or_handed st (collect run c) = ⊎_elim (λ h. inl (inl h)) (λ now. ⊎_elim (λ h. inl (inr h)) (λ z. inr z) (stays_collected now c)) (kept_or_handed st run)

-- ---- what was reported is held, answered

told_ticket : {number n : ℕ} → Desks.done n ≡ Desks.done number → n ≡ number
told_ticket e = cc

-- The ticket is answered.
record AnsweredSo (d : Desk) (number : ℕ) : Type 0 where
  problem : List ℕ
  held_so : HeldAnswered d number problem

-- The step that reported it left it so,
reports : {Gives : Giving} {memory number : ℕ} {d e : Desk} {r : Stepped} → Sound d → Steps Gives memory d r e → r ≡ Desks.done number → AnsweredSo e number
reports s (Desks.Steps.turned_away h) e = absurd (let z : ◌≡◌ {A = ℕ} 0 1 = cc in omega arith)
reports s (Desks.Steps.idle h empty-line) e = absurd (let z : ◌≡◌ {A = ℕ} 0 1 = cc in omega arith)
reports s (one_more h head st found more) e = absurd (let z : ◌≡◌ {A = ℕ} 0 1 = cc in omega arith)
reports {d = d} s (last_one {i = i} {number = n} {own = own} {class = class} {trials = trials} {span = span} {problem = problem} {rest = rest} {a = a} h head st last ans gave) e =
    let inside : i < desk_places = waiting_inside s.sixteen (record { number = n; problem = problem; own = own; there = st }) in
    let now = here d d.given rest i (answered n problem class span trials a) s.sixteen inside in
    record {
      problem = problem;
      held_so = record {
        place = i;
        class = class;
        span = span;
        own = trials;
        answer = a;
        there = record { is = now ∙ ap (λ (z : ℕ). answered z problem class span trials a) (told_ticket e) };
      };
    }

-- and so it stays.
still_so : {number : ℕ} {d e : Desk} (w : AnsweredSo d number)
    → Stands e w.held_so.place (answered number w.problem w.held_so.class w.held_so.span w.held_so.own w.held_so.answer) → AnsweredSo e number
still_so w st = record { problem = w.problem; held_so = record { place = w.held_so.place; class = w.held_so.class; span = w.held_so.span; own = w.held_so.own; answer = w.held_so.answer; there = st } }

reported_so : {Gives : Giving} {memory number k : ℕ} {d e : Desk} → Sound d → (run : Run Gives memory d k e) → Reported number run → HandedOver number run ⊎ AnsweredSo e number
unfolding Reported HandedOver
reported_so s nothing r = absurd r
reported_so s (take_in run t) r = ⊎_elim (λ h. inl h) (λ w. inr (still_so w (stays_taken w.held_so.there t))) (reported_so s run r)
reported_so s (one_step_is run t) (inl r) = ⊎_elim (λ h. inl h) (λ w. inr (still_so w (stays_stepped w.held_so.there t))) (reported_so s run r)
reported_so s (one_step_is run t) (inr e) = inr (reports (sound_run run s) t e)
reported_so s (collect run c) r =
    ⊎_elim (λ h. inl (inl h)) (λ w. ⊎_elim (λ h. inl (inr h)) (λ z. inr (still_so w z)) (stays_collected w.held_so.there c)) (reported_so s run r)

-- Of the problem that was taken in.
pub reported_answered : {Gives : Giving} {memory : ℕ} {d e f : Desk} {p : List ℕ} {number k : ℕ} → FromOpening Gives memory d → TakesIn memory d p (Desks.ticket number) e
    → (run : Run Gives memory e k f) → Reported number run → HandedOver number run ⊎ HeldAnswered f number (meant p)
reported_answered {f = f} {p = p} {number = number} o t run r =
    ⊎_elim (λ h. inl h) (λ w. inr (subst (λ (q : List ℕ). HeldAnswered f number q) (answered_mine o t run w.held_so.there) w.held_so)) (reported_so (sound_taken (from_opening_sound o) t) run r)
