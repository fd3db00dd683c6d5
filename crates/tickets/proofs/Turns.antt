-- Every sequence of calls: the trials of its own that a ticket's place tells are the steps that reported it.
use Prim.Native.Nat.{ℕ, suc, ◌+◌, ◌≤◌, ◌<◌}
use mathlib.Core.Path.{◌≡◌, refl, sym, ap, subst, ◌∙◌}
use mathlib.Core.Bool.{cond}
use mathlib.Core.List.{List, [], ◌∷◌, ◌++◌}
use native.Mathlib.Omega.{arith}
use native.Mathlib.Decide.{ℕ_discrete}
use lib.Dec.{eqb}
use borrow.Author.Tests.{eq-eqb, ne_eqb}
use Rattle.definitions.specs.Limits.{desk_places}
use Rattle.definitions.specs.Tropical.{Trop}
use Rattle.definitions.specs.ProblemRecord.{meant}
use Rattle.definitions.specs.AnswerRecord.{Answer}
use Rattle.definitions.specs.Solved.{Giving}
use Rattle.definitions.specs.Desk.{Place, empty, waits, answered, Desk, place_at, Stands, ticket_of, TakenIn, TakesIn, taken, Stepped, Steps, one_more, last_one, Collected, Collects, handed_over, Run, nothing, take_in, one_step_is, collect, FromOpening}
use Rattle.definitions.specs.DeskLaws.{turn, turns}
use Rattle.definitions.specs.Desk as Desks
use Rattle.tickets.proofs.Sound.{Sound, empty_not_waits, empty_not_answered, own_held, beyond_empty, waiting_inside, moved, here, elsewhere, from_opening_sound}
use Rattle.tickets.proofs.Changes.{run_given, Each, each_moved}
use Rattle.tickets.proofs.Tickets.{each_at_first, taken_number, sound_still, Apart, from_opening_apart}
use Rattle.tickets.proofs.Reported.{run_on}

-- A place with the ticket tells so many trials of its own.
record Tells (number count : ℕ) (p : Place) : Type 0 where
  tells : ticket_of p ≡ number → count ≡ own_held p

module _ {d : Desk} {number count : ℕ} (some : 0 < number) (s : Sound d) (t : Each (Tells number count) d) where
  tells_taken : {memory : ℕ} {p : List ℕ} {e : Desk} {r : TakenIn} → number ≤ d.given → TakesIn memory d p r e → Each (Tells number count) e
  unfolding ticket_of
  tells_taken given (Desks.TakesIn.turned_away h) = t
  tells_taken {p = p} given (taken {i = i} h f) =
      each_moved (suc d.given) (d.line ++ (i ∷ [])) i (waits (suc d.given) (meant p) 0) s f.inside (record { tells = λ e. absurd (omega arith) }) t

  tells_collected : {memory n : ℕ} {e : Desk} {before after : List ℕ} {r : Collected} → Collects memory d n before r e after → Each (Tells number count) e
  unfolding ticket_of
  tells_collected (Desks.Collects.turned_away h) = t
  tells_collected (Desks.Collects.no_such_ticket h n) = t
  tells_collected (Desks.Collects.waits_yet h st) = t
  tells_collected (Desks.Collects.short_buffer h st b) = t
  tells_collected (handed_over {i = i} h st b) =
      each_moved d.given d.line i empty s (beyond_empty d i s.sixteen (λ z. empty_not_answered (sym z ∙ st.is))) (record { tells = λ e. absurd (omega arith) }) t

  -- The head, with ticket n, made one trial more: no other place has its ticket.
  tells_tried : {i n own : ℕ} {problem : List ℕ} (given : ℕ) (line : List ℕ) (p : Place) → Apart d → Stands d i (waits n problem own) → ticket_of p ≡ n → suc own ≡ own_held p
      → Each (Tells number (count + cond (eqb n number) 1 0)) (moved d given line i p)
  unfolding ticket_of own_held
  tells_tried {i} {n} {own} {problem} given line p a st mine made = record { at = λ k. now k (ℕ_discrete k i) (ℕ_discrete n number) }
    where
      inside : i < desk_places
      inside = waiting_inside s.sixteen (record { number = n; problem = problem; own = own; there = st })

      head : Tells number count (waits n problem own)
      head = subst (Tells number count) st.is (t.at i)

      other : (k : ℕ) → (k ≡ i → ⊥) → n ≡ number → ticket_of (place_at d k) ≡ number → ⊥
      other k d' e f = d' (a.apart k i (λ z. absurd (let zero : ticket_of (place_at d k) ≡ 0 = ap ticket_of z in omega arith)) (λ z. empty_not_waits (sym z ∙ st.is)) (f ∙ sym e ∙ sym (ap ticket_of st.is)))

      now : (k : ℕ) → Dec (k ≡ i) → Dec (n ≡ number) → Tells number (count + cond (eqb n number) 1 0) (place_at (moved d given line i p) k)
      now k (yes e) (yes f) = rw (e, here d given line i p s.sixteen inside, eq-eqb n number f) (record { tells = λ _. omega (arith, head.tells f, made) })
      now k (yes e) (no m) = rw (e, here d given line i p s.sixteen inside) (record { tells = λ z. absurd (m (sym mine ∙ z)) })
      now k (no d') (yes f) = rw (elsewhere d given line i p k d') (record { tells = λ z. absurd (other k d' f z) })
      now k (no d') (no m) = rw (elsewhere d given line i p k d', ne_eqb n number m) (record { tells = λ z. omega (arith, (t.at k).tells z) })

  tells_stepped : {Gives : Giving} {memory : ℕ} {e : Desk} {r : Stepped} → Apart d → Steps Gives memory d r e → Each (Tells number (count + turn number r)) e
  unfolding turn ticket_of own_held
  tells_stepped a (Desks.Steps.turned_away h) = subst (λ (c : ℕ). Each (Tells number c) d) (omega arith) t
  tells_stepped a (Desks.Steps.idle h empty-line) = subst (λ (c : ℕ). Each (Tells number c) d) (omega arith) t
  tells_stepped a (one_more {i = i} {number = n} {own = own} {problem = problem} {rest = rest} h head st found more) =
      tells_tried d.given (rest ++ (i ∷ [])) (waits n problem (suc own)) a st refl refl
  tells_stepped a (last_one {i = i} {number = n} {own = own} {class = class} {trials = trials} {span = span} {problem = problem} {rest = rest} {a = b} h head st last ans gave) =
      tells_tried d.given rest (answered n problem class span trials b) a st refl last

module _ {memory : ℕ} {d e : Desk} {p : List ℕ} {number : ℕ} {Gives : Giving} (o : FromOpening Gives memory d) (t : TakesIn memory d p (Desks.ticket number) e) where
  tells_run : {f : Desk} {k : ℕ} (run : Run Gives memory e k f) → Each (Tells number (turns number run)) f
  unfolding turns ticket_of own_held
  tells_run nothing = each_at_first (Tells number 0) (from_opening_sound o) t (record { tells = λ _. refl }) (λ q l. record { tells = λ z. absurd (omega arith) })
  tells_run (take_in run c) = let new = taken_number t in tells_taken (omega (arith, new.0)) (sound_still o t run) (tells_run run) (omega (arith, new.1, run_given run)) c
  tells_run (one_step_is run c) = let new = taken_number t in tells_stepped (omega (arith, new.0)) (sound_still o t run) (tells_run run) (from_opening_apart (run_on o t run)) c
  tells_run (collect run c) = let new = taken_number t in tells_collected (omega (arith, new.0)) (sound_still o t run) (tells_run run) c

module _ {memory : ℕ} {d e f : Desk} {p : List ℕ} {number k : ℕ} {Gives : Giving} (o : FromOpening Gives memory d) (t : TakesIn memory d p (Desks.ticket number) e) (run : Run Gives memory e k f) where
  pub turns_waiting : {i own : ℕ} {problem : List ℕ} → Stands f i (waits number problem own) → turns number run ≡ own
  unfolding ticket_of own_held
  turns_waiting {i} st = (subst (Tells number (turns number run)) st.is ((tells_run o t run).at i)).tells refl

  pub turns_answered : {i class own : ℕ} {span : Trop} {problem : List ℕ} {a : Answer} → Stands f i (answered number problem class span own a) → turns number run ≡ own
  unfolding ticket_of own_held
  turns_answered {i} st = (subst (Tells number (turns number run)) st.is ((tells_run o t run).at i)).tells refl
