-- What holds of every state of a desk from an opening on, and that each call keeps it: the line holds exactly the places that wait, tickets are
-- given out, and what stands at a place fits.
use Prim.Native.Nat.{ℕ, suc, ◌≤◌, ◌<◌}
use mathlib.Core.Path.{◌≡◌, refl, sym, ap, subst, ◌∙◌}
use mathlib.Core.Logic.{◌⊎◌, inl, inr, ⊎_elim}
use mathlib.Core.List.{List, [], ◌∷◌, ◌++◌}
use native.Mathlib.Omega.{arith}
use native.Mathlib.Decide.{ℕ_discrete}
use lib.ListN.{length, set, length-set, length-replicate, get_or-replicate, get_or-eq_default}
use lib.Seq.{get_or-set_same, get_or-set_other}
use Rattle.definitions.specs.Limits.{desk_places, most_trials}
use Rattle.definitions.specs.Tropical.{Trop, fin, bot}
use Rattle.definitions.specs.Problem.{Problem}
use Rattle.definitions.specs.Bisection.{trials_optimal}
use Rattle.definitions.specs.ProblemRecord.{problem_of, meant}
use Rattle.definitions.specs.AnswerRecord.{Answer}
use Rattle.definitions.specs.Solved.{Found, optimal, unbounded, infeasible, Answers, Giving}
use Rattle.definitions.specs.Bytes.{first, or_else}
use Rattle.definitions.specs.Desk.{memory_refused, full_refused, desk_refusal, WithinDesk, Place, empty, waits, answered, Desk, opened, place_at, Stands, ticket_of, TakenIn, TakesIn, taken, take_refusal, Stepped, Steps, one_more, last_one, Collected, Collects, handed_over, Run, nothing, take_in, one_step_is, collect, FromOpening}
use Rattle.definitions.specs.Desk as Desks
use Rattle.base.proofs.Numbers.{nat_le_or_lt}
use Rattle.definitions.proofs.Refusals.{or_else_none}
use Rattle.definitions.proofs.Layouts.{desk_within}
use Rattle.duality.proofs.SmallLeads.{trials_few}
use Rattle.duality.proofs.Classes.{classified}
use Rattle.tickets.proofs.Line.{Line, joins, leaves, line_as, line_most}

-- Something waits at this place.
pub record Waiting (d : Desk) (i : ℕ) : Type 0 where
  pub number : ℕ
  pub problem : List ℕ
  pub own : ℕ
  pub there : Stands d i (waits number problem own)

-- A problem that the desk takes asks for at most 24 trials.
pub desk_few : (p : List ℕ) → WithinDesk p → {class : ℕ} {span : Trop} {trials : ℕ} → Found (problem_of p) class span trials → trials ≤ most_trials
desk_few p w f = trials_few p (desk_within p w) f

-- Every class and span asks for a trial, and every problem has a class, with span and trials.
pub found_some : {p : Problem} {class trials : ℕ} {span : Trop} → Found p class span trials → 0 < trials
unfolding trials_optimal
found_some (optimal o) = omega arith
found_some (unbounded u) = omega arith
found_some (infeasible i) = omega arith

pub record Classed (p : Problem) : Type 0 where
  pub class : ℕ
  pub span : Trop
  pub trials : ℕ
  pub found : Found p class span trials

pub classed : (p : Problem) → Classed p
classed p = ⊎_elim
    (λ i. record { class = 3; span = bot; trials = 1; found = infeasible i })
    (λ o. ⊎_elim (λ h. record { class = 1; span = fin h.at; trials = _; found = optimal h.optimal }) (λ u. record { class = 2; span = bot; trials = 2; found = unbounded u }) o)
    (classified p)

-- What holds of a place: a problem that waits is within the layout and has made fewer than 24 trials, an answered one at most 24,
-- and has an answer that the engine may give.
pub data Fit : Place → Type 0 where
  fit_empty : Fit empty
  fit_waits : {number own : ℕ} {problem : List ℕ} → WithinDesk problem → own < most_trials → Fit (waits number problem own)
  fit_answered :
      {number class own : ℕ} {span : Trop} {problem : List ℕ} {a : Answer} → WithinDesk problem
      → Answers (problem_of problem) class span own a → Fit (answered number problem class span own a)

-- What holds of every state from an opening on.
pub record Sound (d : Desk) : Type 0 where
  pub sixteen : length d.places ≡ desk_places
  pub line : Line (Waiting d) d.line
  pub tickets : (i : ℕ) → ticket_of (place_at d i) ≤ d.given
  pub fits : (i : ℕ) → Fit (place_at d i)

-- ---- what a place is

pub empty_not_waits : {number own : ℕ} {problem : List ℕ} → empty ≡ waits number problem own → ⊥
empty_not_waits e = let z : ◌≡◌ {A = ℕ} 0 1 = cc in omega arith

pub empty_not_answered : {number class own : ℕ} {span : Trop} {problem : List ℕ} {a : Answer} → empty ≡ answered number problem class span own a → ⊥
empty_not_answered e = let z : ◌≡◌ {A = ℕ} 0 1 = cc in omega arith

pub answered_not_waits : {number class own : ℕ} {span : Trop} {problem : List ℕ} {a : Answer} {n o : ℕ} {p : List ℕ} → answered number problem class span own a ≡ waits n p o → ⊥
answered_not_waits e = let z : ◌≡◌ {A = ℕ} 0 1 = cc in omega arith

-- The problem that a place holds, and the trials of its own.
unfoldable pub problem_held : Place → List ℕ
problem_held empty = []
problem_held (waits number problem own) = problem
problem_held (answered number problem class span own a) = problem

unfoldable pub own_held : Place → ℕ
own_held empty = 0
own_held (waits number problem own) = own
own_held (answered number problem class span own a) = own

pub same_number : {number own : ℕ} {problem : List ℕ} {n o : ℕ} {p : List ℕ} → waits number problem own ≡ waits n p o → number ≡ n
unfolding ticket_of
same_number e = ap ticket_of e

pub same_problem : {number own : ℕ} {problem : List ℕ} {n o : ℕ} {p : List ℕ} → waits number problem own ≡ waits n p o → problem ≡ p
unfolding problem_held
same_problem e = ap problem_held e

pub same_own : {number own : ℕ} {problem : List ℕ} {n o : ℕ} {p : List ℕ} → waits number problem own ≡ waits n p o → own ≡ o
unfolding own_held
same_own e = ap own_held e

fit_of_waits : {number own : ℕ} {problem : List ℕ} → Fit (waits number problem own) → WithinDesk problem × (own < most_trials)
fit_of_waits (fit_waits w h) = (w, h)

fit_of_answered : {number class own : ℕ} {span : Trop} {problem : List ℕ} {a : Answer} → Fit (answered number problem class span own a)
    → WithinDesk problem × Answers (problem_of problem) class span own a
fit_of_answered (fit_answered w h) = (w, h)

module _ {d : Desk} (sound : Sound d) where
  pub waits_fit : {i number own : ℕ} {problem : List ℕ} → Stands d i (waits number problem own) → WithinDesk problem × (own < most_trials)
  waits_fit {i} st = fit_of_waits (subst Fit st.is (sound.fits i))

  pub answered_fit : {i number class own : ℕ} {span : Trop} {problem : List ℕ} {a : Answer} → Stands d i (answered number problem class span own a)
      → WithinDesk problem × Answers (problem_of problem) class span own a
  answered_fit {i} st = fit_of_answered (subst Fit st.is (sound.fits i))

-- What waits, or is answered, stands at one of the sixteen places.
pub beyond_empty : (d : Desk) (i : ℕ) → length d.places ≡ desk_places → (place_at d i ≡ empty → ⊥) → i < desk_places
beyond_empty d i e some = ⊎_elim (λ (h : desk_places ≤ i). absurd (some (get_or-eq_default d.places empty (omega arith)))) (λ h. h) (nat_le_or_lt desk_places i)

pub waiting_inside : {d : Desk} {i : ℕ} → length d.places ≡ desk_places → Waiting d i → i < desk_places
waiting_inside {d} {i} e w = beyond_empty d i e (λ z. empty_not_waits (sym z ∙ w.there.is))

-- ---- one place changed

module _ (d : Desk) (given : ℕ) (line : List ℕ) (i : ℕ) (p : Place) where
  abbrev pub moved : Desk
  moved = record { given = given; line = line; places = set d.places i p }

  pub here : length d.places ≡ desk_places → i < desk_places → place_at moved i ≡ p
  here e h = get_or-set_same d.places i p empty (omega arith)

  pub elsewhere : (k : ℕ) → (k ≡ i → ⊥) → place_at moved k ≡ place_at d k
  elsewhere k n = get_or-set_other d.places i k p empty n

  pub waits_elsewhere : (k : ℕ) → (k ≡ i → ⊥) → Waiting d k → Waiting moved k
  waits_elsewhere k n w = record { number = w.number; problem = w.problem; own = w.own; there = record { is = elsewhere k n ∙ w.there.is } }

  pub waited_elsewhere : (k : ℕ) → (k ≡ i → ⊥) → Waiting moved k → Waiting d k
  waited_elsewhere k n w = record { number = w.number; problem = w.problem; own = w.own; there = record { is = sym (elsewhere k n) ∙ w.there.is } }

  -- The state stays sound.
  pub sound_moved : Sound d → i < desk_places → Line (Waiting moved) line → d.given ≤ given → ticket_of p ≤ given → Fit p → Sound moved
  sound_moved s h l more t f = record {
    sixteen = length-set d.places i p ∙ s.sixteen;
    line = l;
    tickets = λ k. ticket_at k (ℕ_discrete k i);
    fits = λ k. fit_at k (ℕ_discrete k i);
  }
    where
      ticket_at : (k : ℕ) → Dec (k ≡ i) → ticket_of (place_at moved k) ≤ given
      ticket_at k (yes e) = rw (e, here s.sixteen h) t
      ticket_at k (no n) = rw (elsewhere k n) (let old : ticket_of (place_at d k) ≤ d.given = s.tickets k in omega arith)

      fit_at : (k : ℕ) → Dec (k ≡ i) → Fit (place_at moved k)
      fit_at k (yes e) = rw (e, here s.sixteen h) f
      fit_at k (no n) = rw (elsewhere k n) (s.fits k)

-- ---- each call keeps it

pub sixteen_empty : (i : ℕ) → place_at opened i ≡ empty
sixteen_empty i = ⊎_elim (λ (h : desk_places ≤ i). get_or-eq_default opened.places empty {n = i} (omega (arith, length-replicate {A = Place} desk_places empty))) (λ h. get_or-replicate desk_places i empty empty h) (nat_le_or_lt desk_places i)

no_ticket : ticket_of empty ≤ 0
unfolding ticket_of
no_ticket = omega arith

pub sound_opened : Sound opened
sound_opened = record {
  sixteen = length-replicate desk_places empty;
  line = record {
    wait = λ {i} {q} a. absurd (omega (arith, a.inside));
    apart = λ {i} {q} {r} a b. absurd (omega (arith, a.inside));
    all = λ {i} w. absurd (empty_not_waits (sym (sixteen_empty i) ∙ w.there.is));
  };
  tickets = λ i. rw (sixteen_empty i) no_ticket;
  fits = λ i. rw (sixteen_empty i) fit_empty;
}

module _ {memory : ℕ} {d : Desk} (s : Sound d) where
  pub sound_taken : {p : List ℕ} {e : Desk} {r : TakenIn} → TakesIn memory d p r e → Sound e
  unfolding take_refusal ticket_of
  sound_taken (Desks.TakesIn.turned_away h) = s
  sound_taken {p = p} (taken {i = i} h f) =
      let new : Waiting d i → ⊥ = λ w. empty_not_waits (sym f.is_empty ∙ w.there.is) in
      let fit = (or_else_none (desk_refusal (meant p)) (first (full_refused d))).0 ((or_else_none (first (memory_refused memory ∷ [])) (or_else (desk_refusal (meant p)) (first (full_refused d)))).0 h).1 in
      sound_moved d (suc d.given) (d.line ++ (i ∷ [])) i (waits (suc d.given) (meant p) 0) s f.inside
      (joins i s.line new (λ k w. waits_elsewhere d _ _ i _ k (λ e. new (subst (Waiting d) e w)) w)
      (record { number = _; problem = _; own = _; there = record { is = here d (suc d.given) (d.line ++ (i ∷ [])) i _ s.sixteen f.inside } })
      (λ k w. old k w (ℕ_discrete k i)))
      (omega arith) (omega arith) (fit_waits fit.0 (omega arith))
    where
      old : (k : ℕ) → Waiting (moved d (suc d.given) (d.line ++ (i ∷ [])) i (waits (suc d.given) (meant p) 0)) k → Dec (k ≡ i) → Waiting d k ⊎ (k ≡ i)
      old k w (yes e) = inr e
      old k w (no n) = inl (waited_elsewhere d _ _ i _ k n w)

  pub sound_stepped : {Gives : Giving} {e : Desk} {r : Stepped} → Steps Gives memory d r e → Sound e
  unfolding ticket_of
  sound_stepped (Desks.Steps.turned_away h) = s
  sound_stepped (Desks.Steps.idle h none) = s
  sound_stepped (one_more {i = i} {number = number} {own = own} {problem = problem} {rest = rest} h head st found more) =
      let inside : i < desk_places = waiting_inside s.sixteen (record { number = number; problem = problem; own = own; there = st }) in
      let fit = waits_fit s st in
      let few = desk_few problem fit.0 found in
      let others : Line (λ k. Waiting d k × (k ≡ i → ⊥)) rest = leaves (subst (Line (Waiting d)) head s.line) (λ k n w. (w, n)) (λ k w. w) in
      sound_moved d d.given (rest ++ (i ∷ [])) i (waits number problem (suc own)) s inside
      (joins i others (λ w. w.1 refl) (λ k w. waits_elsewhere d _ _ i _ k w.1 w.0)
      (record { number = _; problem = _; own = _; there = record { is = here d d.given (rest ++ (i ∷ [])) i _ s.sixteen inside } })
      (λ k w. old k w (ℕ_discrete k i)))
      (omega arith) (subst (λ (p : Place). ticket_of p ≤ d.given) st.is (s.tickets i)) (fit_waits fit.0 (omega arith))
    where
      old : (k : ℕ) → Waiting (moved d d.given (rest ++ (i ∷ [])) i (waits number problem (suc own))) k → Dec (k ≡ i) → (Waiting d k × (k ≡ i → ⊥)) ⊎ (k ≡ i)
      old k w (yes e) = inr e
      old k w (no n) = inl (waited_elsewhere d _ _ i _ k n w, n)
  sound_stepped (last_one {i = i} {number = number} {own = own} {class = class} {trials = trials} {span = span} {problem = problem} {rest = rest} {a = a} h head st last ans gave) =
      let inside : i < desk_places = waiting_inside s.sixteen (record { number = number; problem = problem; own = own; there = st }) in
      let fit = waits_fit s st in
      sound_moved d d.given rest i (answered number problem class span trials a) s inside
      (leaves (subst (Line (Waiting d)) head s.line) (λ k n w. waits_elsewhere d _ _ i _ k n w) (λ k w. old inside k w (ℕ_discrete k i)))
      (omega arith) (subst (λ (p : Place). ticket_of p ≤ d.given) st.is (s.tickets i)) (fit_answered fit.0 ans)
    where
      old : i < desk_places → (k : ℕ) → Waiting (moved d d.given rest i (answered number problem class span trials a)) k → Dec (k ≡ i) → Waiting d k × (k ≡ i → ⊥)
      old inside k w (yes e) = absurd (answered_not_waits (sym (here d d.given rest i _ s.sixteen inside) ∙ ap (λ (z : ℕ). place_at (moved d d.given rest i (answered number problem class span trials a)) z) (sym e) ∙ w.there.is))
      old inside k w (no n) = (waited_elsewhere d _ _ i _ k n w, n)

  pub sound_collected : {e : Desk} {number : ℕ} {before after : List ℕ} {r : Collected} → Collects memory d number before r e after → Sound e
  unfolding ticket_of
  sound_collected (Desks.Collects.turned_away h) = s
  sound_collected (Desks.Collects.no_such_ticket h n) = s
  sound_collected (Desks.Collects.waits_yet h st) = s
  sound_collected (Desks.Collects.short_buffer h st b) = s
  sound_collected (handed_over {i = i} h st b) =
      let inside : i < desk_places = beyond_empty d i s.sixteen (λ z. empty_not_answered (sym z ∙ st.is)) in
      sound_moved d d.given d.line i empty s inside
      (line_as (λ k w. waits_elsewhere d _ _ i _ k (λ e. not_there (subst (Waiting d) e w)) w) (λ k w. old inside k w (ℕ_discrete k i)) s.line)
      (omega arith) (omega arith) fit_empty
    where
      not_there : Waiting d i → ⊥
      not_there w = answered_not_waits (sym st.is ∙ w.there.is)

      old : i < desk_places → (k : ℕ) → Waiting (moved d d.given d.line i empty) k → Dec (k ≡ i) → Waiting d k
      old inside k w (yes e) = absurd (empty_not_waits (sym (here d d.given d.line i _ s.sixteen inside) ∙ ap (λ (z : ℕ). place_at (moved d d.given d.line i empty) z) (sym e) ∙ w.there.is))
      old inside k w (no n) = waited_elsewhere d _ _ i _ k n w

-- So it holds of every state from an opening on.
pub sound_run : {Gives : Giving} {memory k : ℕ} {d e : Desk} → Run Gives memory d k e → Sound d → Sound e
sound_run nothing s = s
sound_run (take_in run t) s = sound_taken (sound_run run s) t
sound_run (one_step_is run t) s = sound_stepped (sound_run run s) t
sound_run (collect run t) s = sound_collected (sound_run run s) t

pub from_opening_sound : {Gives : Giving} {memory : ℕ} {d : Desk} → FromOpening Gives memory d → Sound d
from_opening_sound f = sound_run f.run sound_opened

-- At most sixteen wait.
pub line_few : {d : Desk} → Sound d → length d.line ≤ desk_places
line_few s = line_most desk_places s.line (λ i w. waiting_inside s.sixteen w)
