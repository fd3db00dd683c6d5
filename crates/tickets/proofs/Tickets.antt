-- Every sequence of calls: a ticket belongs to one problem, stands at one place, is held no more once it was collected, and never comes twice.
use Prim.Native.Nat.{ℕ, suc, ◌≤◌, ◌<◌}
use mathlib.Core.Path.{◌≡◌, refl, sym, ap, subst, ◌∙◌}
use mathlib.Core.Bool.{Bool, true, false, cond}
use mathlib.Core.Logic.{⊎_elim}
use mathlib.Core.List.{List, [], ◌∷◌, ◌++◌}
use native.Mathlib.Omega.{arith}
use native.Mathlib.Decide.{ℕ_discrete}
use lib.Dec.{leb}
use borrow.Author.Tests.{le-leb}
use Rattle.base.proofs.Numbers.{nat_le_or_lt}
use Rattle.definitions.specs.Limits.{desk_places, last_ticket, refused_full}
use Rattle.definitions.specs.Tropical.{Trop}
use Rattle.definitions.specs.ProblemRecord.{meant}
use Rattle.definitions.specs.AnswerRecord.{Answer}
use Rattle.definitions.specs.Bytes.{first, or_else}
use Rattle.definitions.specs.Solved.{Giving}
use Rattle.definitions.specs.Desk.{memory_refused, full_refused, desk_refusal, WithinDesk, Place, empty, waits, answered, Desk, place_at, Stands, ticket_of, held, TakesIn, taken, take_refusal, NotHeld, Collects, handed_over, Run, nothing, take_in, one_step_is, collect, FromOpening}
use Rattle.definitions.specs.Desk as Desks
use Rattle.definitions.proofs.Refusals.{or_else_none}
use Rattle.tickets.proofs.Sound.{Sound, empty_not_waits, empty_not_answered, problem_held, beyond_empty, moved, here, elsewhere, sound_opened, sixteen_empty, sound_taken, sound_collected, sound_run, from_opening_sound}
use Rattle.tickets.proofs.Changes.{Becomes, enters, goes_on, closes, frees, Change, none, one, taken_changes, stepped_changes, collected_changes, run_given, Each, each_moved, each_run}

-- ---- a ticket belongs to one problem

-- A place with the ticket holds the problem.
record Tied (number : ℕ) (problem : List ℕ) (p : Place) : Type 0 where
  tie : ticket_of p ≡ number → problem_held p ≡ problem

tied_becomes : (number : ℕ) (q : List ℕ) → 0 < number → (given : ℕ) (was p : Place) → number ≤ given → Becomes given was p → Tied number q was → Tied number q p
unfolding ticket_of problem_held
tied_becomes number q some given was p l enters t = record { tie = λ e. absurd (omega arith) }
tied_becomes number q some given was p l (goes_on f m) t = record { tie = t.tie }
tied_becomes number q some given was p l closes t = record { tie = t.tie }
tied_becomes number q some given was p l frees t = record { tie = λ e. absurd (omega arith) }

-- A problem that got a ticket is one that the desk takes.
pub taken_within : {memory number : ℕ} {d e : Desk} {p : List ℕ} → TakesIn memory d p (Desks.ticket number) e → WithinDesk (meant p)
unfolding take_refusal
taken_within {memory} {d = d} {p = p} (taken h f) =
    ((or_else_none (desk_refusal (meant p)) (first (full_refused d))).0 ((or_else_none (first (memory_refused memory ∷ [])) (or_else (desk_refusal (meant p)) (first (full_refused d)))).0 h).1).0

-- What holds of the new place and of every one with a lower ticket holds of each: the tickets before were lower.
pub each_at_first : {memory number : ℕ} {d e : Desk} {p : List ℕ} (P : Place → Type 0) → Sound d → TakesIn memory d p (Desks.ticket number) e → P (waits number (meant p) 0)
    → ((q : Place) → ticket_of q < number → P q) → Each P e
each_at_first {d = d} {p = p} P s (taken {i = i} h f) new old =
    each_moved (suc d.given) (d.line ++ (i ∷ [])) i (waits (suc d.given) (meant p) 0) s f.inside new (record { at = λ k. old (place_at d k) (let low = s.tickets k in omega arith) })

tied_at_first : {memory number : ℕ} {d e : Desk} {p : List ℕ} → Sound d → TakesIn memory d p (Desks.ticket number) e → Each (Tied number (meant p)) e
unfolding ticket_of problem_held
tied_at_first s t = each_at_first (Tied _ _) s t (record { tie = λ _. refl }) (λ q l. record { tie = λ e. absurd (omega arith) })

pub taken_number : {memory number : ℕ} {d e : Desk} {p : List ℕ} → TakesIn memory d p (Desks.ticket number) e → (number ≡ suc d.given) × (e.given ≡ number)
taken_number (taken h f) = (refl, refl)

module _ {memory : ℕ} {d e f : Desk} {p : List ℕ} {number k : ℕ} {Gives : Giving} (o : FromOpening Gives memory d) (t : TakesIn memory d p (Desks.ticket number) e) (run : Run Gives memory e k f) where
  tied_still : Each (Tied number (meant p)) f
  tied_still =
      let s = from_opening_sound o in
      let new = taken_number t in
      each_run number (omega (arith, new.1)) (tied_becomes number (meant p) (omega (arith, new.0))) (sound_taken s t) (tied_at_first s t) run

  pub sound_still : Sound f
  sound_still = sound_run run (sound_taken (from_opening_sound o) t)

  tied_at : {i : ℕ} {q : Place} → Stands f i q → Tied number (meant p) q
  tied_at {i} st = subst (Tied number (meant p)) st.is (tied_still.at i)

  pub waits_mine : {i own : ℕ} {problem : List ℕ} → Stands f i (waits number problem own) → problem ≡ meant p
  unfolding ticket_of problem_held
  waits_mine st = (tied_at st).tie refl

  pub answered_mine : {i class own : ℕ} {span : Trop} {problem : List ℕ} {a : Answer} → Stands f i (answered number problem class span own a) → problem ≡ meant p
  unfolding ticket_of problem_held
  answered_mine st = (tied_at st).tie refl

-- ---- no two places hold the same ticket

pub record Apart (d : Desk) : Type 0 where
  pub apart : (i k : ℕ) → (place_at d i ≡ empty → ⊥) → (place_at d k ≡ empty → ⊥) → ticket_of (place_at d i) ≡ ticket_of (place_at d k) → i ≡ k

module _ {d : Desk} (s : Sound d) (t : Apart d) where
  -- One place changed, to a ticket that no other place holds, or to none.
  apart_moved : (given : ℕ) (line : List ℕ) (i : ℕ) (p : Place) → i < desk_places
      → ((k : ℕ) → (k ≡ i → ⊥) → (place_at d k ≡ empty → ⊥) → (p ≡ empty → ⊥) → ticket_of p ≡ ticket_of (place_at d k) → ⊥) → Apart (moved d given line i p)
  apart_moved given line i p inside new = record { apart = λ j k a b e. at j k a b e (ℕ_discrete j i) (ℕ_discrete k i) }
    where
      there : (k : ℕ) → k ≡ i → place_at (moved d given line i p) k ≡ p
      there k e = ap (λ (z : ℕ). place_at (moved d given line i p) z) e ∙ here d given line i p s.sixteen inside

      at : (j k : ℕ) → (place_at (moved d given line i p) j ≡ empty → ⊥) → (place_at (moved d given line i p) k ≡ empty → ⊥)
          → ticket_of (place_at (moved d given line i p) j) ≡ ticket_of (place_at (moved d given line i p) k) → Dec (j ≡ i) → Dec (k ≡ i) → j ≡ k
      at j k a b e (yes y) (yes z) = y ∙ sym z
      at j k a b e (yes y) (no n) = absurd (new k n (λ z. b (elsewhere d given line i p k n ∙ z)) (λ z. a (there j y ∙ z)) (ap ticket_of (sym (there j y)) ∙ e ∙ ap ticket_of (elsewhere d given line i p k n)))
      at j k a b e (no m) (yes z) = absurd (new j m (λ y. a (elsewhere d given line i p j m ∙ y)) (λ y. b (there k z ∙ y)) (ap ticket_of (sym (there k z)) ∙ sym e ∙ ap ticket_of (elsewhere d given line i p j m)))
      at j k a b e (no m) (no n) = t.apart j k (λ y. a (elsewhere d given line i p j m ∙ y)) (λ y. b (elsewhere d given line i p k n ∙ y)) (ap ticket_of (sym (elsewhere d given line i p j m)) ∙ e ∙ ap ticket_of (elsewhere d given line i p k n))

  -- A place that keeps its ticket.
  same_ticket : {i number own : ℕ} {problem : List ℕ} {p : Place} → Stands d i (waits number problem own) → ticket_of p ≡ number
      → (k : ℕ) → (k ≡ i → ⊥) → (place_at d k ≡ empty → ⊥) → (p ≡ empty → ⊥) → ticket_of p ≡ ticket_of (place_at d k) → ⊥
  unfolding ticket_of
  same_ticket {i} st mine k n some _ e = n (sym (t.apart i k (λ z. empty_not_waits (sym z ∙ st.is)) some (ap ticket_of st.is ∙ sym mine ∙ e)))

  others : {i : ℕ} {was p : Place} → Stands d i was → Becomes d.given was p
      → (k : ℕ) → (k ≡ i → ⊥) → (place_at d k ≡ empty → ⊥) → (p ≡ empty → ⊥) → ticket_of p ≡ ticket_of (place_at d k) → ⊥
  unfolding ticket_of
  others st enters k n some _ e = let old = s.tickets k in omega arith
  others st (goes_on f m) k n some full e = same_ticket st refl k n some full e
  others st closes k n some full e = same_ticket st refl k n some full e
  others st frees k n some full e = full refl

  apart_changed : {e : Desk} → Change d e → Apart e
  apart_changed none = t
  apart_changed (one given line {i = i} {p = p} inside st b) = apart_moved given line i p inside (others st b)

apart_run : {Gives : Giving} {memory k : ℕ} {d e : Desk} → Sound d → Apart d → Run Gives memory d k e → Apart e
apart_run s t nothing = t
apart_run s t (take_in run c) = let z = sound_run run s in apart_changed z (apart_run s t run) (taken_changes z c)
apart_run s t (one_step_is run c) = let z = sound_run run s in apart_changed z (apart_run s t run) (stepped_changes z c)
apart_run s t (collect run c) = let z = sound_run run s in apart_changed z (apart_run s t run) (collected_changes z c)

pub from_opening_apart : {Gives : Giving} {memory : ℕ} {d : Desk} → FromOpening Gives memory d → Apart d
from_opening_apart o = apart_run sound_opened (record { apart = λ i k a b e. absurd (a (sixteen_empty i)) }) o.run

-- ---- a ticket that was collected

-- The place does not hold the ticket.
record Without (number : ℕ) (p : Place) : Type 0 where
  other : (p ≡ empty → ⊥) → ticket_of p ≡ number → ⊥

without_becomes : (number given : ℕ) (was p : Place) → number ≤ given → Becomes given was p → Without number was → Without number p
unfolding ticket_of
without_becomes number given was p l enters w = record { other = λ some e. omega arith }
without_becomes number given was p l (goes_on f m) w = record { other = λ some e. w.other (λ z. empty_not_waits (sym z)) e }
without_becomes number given was p l closes w = record { other = λ some e. w.other (λ z. empty_not_waits (sym z)) e }
without_becomes number given was p l frees w = record { other = λ some e. some refl }

-- It is held no more,
without_collected : {Gives : Giving} {memory number class own size : ℕ} {span : Trop} {d e : Desk} {before after : List ℕ} → FromOpening Gives memory d
    → Collects memory d number before (Desks.collected class span own size) e after → Each (Without number) e × (number ≤ e.given)
unfolding ticket_of
without_collected {number = number} {d = d} o (handed_over {i = i} h st b) =
    let s = from_opening_sound o in
    (record { at = λ k. record { other = λ some is. gone s k some is (ℕ_discrete k i) } }, subst (λ (p : Place). ticket_of p ≤ d.given) st.is (s.tickets i))
  where
    gone : Sound d → (k : ℕ) → (place_at (moved d d.given d.line i empty) k ≡ empty → ⊥) → ticket_of (place_at (moved d d.given d.line i empty) k) ≡ number → Dec (k ≡ i) → ⊥
    gone s k some is (yes e) =
        let inside : i < desk_places = beyond_empty d i s.sixteen (λ z. empty_not_answered (sym z ∙ st.is)) in
        some (ap (λ (z : ℕ). place_at (moved d d.given d.line i empty) z) e ∙ here d d.given d.line i empty s.sixteen inside)
    gone s k some is (no n) =
        let same = elsewhere d d.given d.line i empty k n in
        n ((from_opening_apart o).apart k i (λ z. some (same ∙ z)) (λ z. empty_not_answered (sym z ∙ st.is)) (ap ticket_of (sym same) ∙ is ∙ sym (ap ticket_of st.is)))

-- and never again.
pub collected_gone : {Gives : Giving} {memory number class own size k : ℕ} {span : Trop} {d e f : Desk} {before after : List ℕ} → FromOpening Gives memory d
    → Collects memory d number before (Desks.collected class span own size) e after → Run Gives memory e k f → NotHeld f number
collected_gone {number = number} o c run i some is =
    let w = without_collected o c in ((each_run number w.1 (without_becomes number) (sound_collected (from_opening_sound o) c) w.0 run).at i).other some is

-- ---- every ticket that is held was given out

record Some (p : Place) : Type 0 where
  some : (p ≡ empty → ⊥) → 0 < ticket_of p

some_becomes : (given : ℕ) (was p : Place) → 0 ≤ given → Becomes given was p → Some was → Some p
unfolding ticket_of
some_becomes given was p l enters s = record { some = λ _. omega arith }
some_becomes given was p l (goes_on f m) s = record { some = λ _. s.some (λ z. empty_not_waits (sym z)) }
some_becomes given was p l closes s = record { some = λ _. s.some (λ z. empty_not_waits (sym z)) }
some_becomes given was p l frees s = record { some = λ n. absurd (n refl) }

pub held_some : {Gives : Giving} {memory : ℕ} {d : Desk} → FromOpening Gives memory d → (i : ℕ) → (place_at d i ≡ empty → ⊥) → (0 < ticket_of (place_at d i)) × (ticket_of (place_at d i) ≤ d.given)
held_some o i n = (
  ((each_run 0 (omega arith) some_becomes sound_opened (record { at = λ k. record { some = λ m. absurd (m (sixteen_empty k)) } }) o.run).at i).some n,
  (from_opening_sound o).tickets i,
)

-- ---- tickets count up

pub tickets_later : {Gives : Giving} {memory : ℕ} {d e f g : Desk} {p q : List ℕ} {number later k : ℕ} → TakesIn memory d p (Desks.ticket number) e → Run Gives memory e k f
    → TakesIn memory f q (Desks.ticket later) g → number < later
tickets_later (taken h f) run (taken i g) = omega (arith, run_given run)

-- Where 21 is not given, a ticket is left.
not_used_up : (a b : Bool) → cond a refused_full (cond b refused_full 0) ≡ 0 → b ≡ true → ⊥
not_used_up true b e f = omega arith
not_used_up false true e f = omega arith
not_used_up false false e f = let z : ◌≡◌ {A = ℕ} 0 1 = ap (λ (b : Bool). cond b 1 0) f in omega arith

pub tickets_next : {memory : ℕ} {d e : Desk} {p : List ℕ} {number : ℕ} → TakesIn memory d p (Desks.ticket number) e → (number ≡ suc d.given) × (e.given ≡ number) × (number ≤ last_ticket)
unfolding take_refusal
tickets_next {memory} {d = d} {p = p} (taken h f) =
    let fit = (or_else_none (desk_refusal (meant p)) (first (full_refused d))).0 ((or_else_none (first (memory_refused memory ∷ [])) (or_else (desk_refusal (meant p)) (first (full_refused d)))).0 h).1 in (
      refl,
      refl,
      ⊎_elim
          (λ (l : last_ticket ≤ d.given). absurd (not_used_up (leb desk_places (held d.places)) (leb last_ticket d.given) fit.1 (le-leb last_ticket d.given l)))
          (λ (l : d.given < last_ticket). omega arith)
          (nat_le_or_lt last_ticket d.given),
    )
