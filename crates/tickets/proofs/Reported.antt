-- Every sequence of calls: a ticket waits until a step reports it, which one of 16 steps for each of its trials does, so within 384 steps.
use Prim.Native.Nat.{ℕ, suc, ◌*◌, ◌≤◌, ◌<◌}
use mathlib.Core.Path.{◌≡◌, sym, ap, subst, ◌∙◌}
use mathlib.Core.Logic.{◌⊎◌, inl, inr, ⊎_elim}
use mathlib.Core.List.{List, [], ◌∷◌, ◌++◌}
use native.Mathlib.Omega.{arith}
use native.Mathlib.Decide.{ℕ_discrete}
use Rattle.definitions.specs.Limits.{desk_places, desk_steps}
use Rattle.definitions.specs.Tropical.{Trop}
use Rattle.definitions.specs.ProblemRecord.{problem_of, meant}
use Rattle.definitions.specs.Solved.{Found, Giving}
use Rattle.definitions.specs.Desk.{Place, empty, waits, answered, Desk, place_at, Stands, TakenIn, TakesIn, taken, Stepped, Steps, one_more, last_one, Collected, Collects, handed_over, Run, nothing, take_in, one_step_is, collect, FromOpening}
use Rattle.definitions.specs.DeskLaws.{Reported, HeldWaiting}
use Rattle.definitions.specs.Desk as Desks
use Rattle.tickets.proofs.Sound.{Sound, desk_few, classed, empty_not_waits, answered_not_waits, same_number, waiting_inside, moved, here, elsewhere, sound_taken, sound_run, from_opening_sound}
use Rattle.tickets.proofs.Tickets.{taken_within, waits_mine}
use Rattle.tickets.proofs.Due.{waits_no_longer}

-- ---- one sequence after another

pub from_run : {Gives : Giving} {memory k : ℕ} {d e : Desk} → FromOpening Gives memory d → Run Gives memory d k e → FromOpening Gives memory e
from_run o nothing = o
from_run o (take_in run t) = let g = from_run o run in record { steps = g.steps; run = take_in g.run t }
from_run o (one_step_is run t) = let g = from_run o run in record { steps = suc g.steps; run = one_step_is g.run t }
from_run o (collect run t) = let g = from_run o run in record { steps = g.steps; run = collect g.run t }

pub run_on : {Gives : Giving} {memory k number : ℕ} {d e f : Desk} {p : List ℕ} → FromOpening Gives memory d → TakesIn memory d p (Desks.ticket number) e → Run Gives memory e k f → FromOpening Gives memory f
run_on o t run = from_run (record { steps = o.steps; run = take_in o.run t }) run

-- ---- a ticket waits until a step reports it

-- The ticket still waits.
pub record StillWaits (d : Desk) (number : ℕ) : Type 0 where
  pub place : ℕ
  pub problem : List ℕ
  pub own : ℕ
  pub there : Stands d place (waits number problem own)

module _ {number : ℕ} {d : Desk} (w : StillWaits d number) where
  -- It stays where another place changes.
  waits_there : (given : ℕ) (line : List ℕ) (i : ℕ) (p : Place) → (w.place ≡ i → ⊥) → StillWaits (moved d given line i p) number
  waits_there given line i p n = record { place = w.place; problem = w.problem; own = w.own; there = record { is = elsewhere d given line i p w.place n ∙ w.there.is } }

  at_place : {i : ℕ} → w.place ≡ i → place_at d i ≡ waits number w.problem w.own
  at_place e = ap (λ (z : ℕ). place_at d z) (sym e) ∙ w.there.is

  waits_taken : {memory : ℕ} {p : List ℕ} {e : Desk} {r : TakenIn} → TakesIn memory d p r e → StillWaits e number
  waits_taken (Desks.TakesIn.turned_away h) = w
  waits_taken {p = p} (taken {i = i} h f) = waits_there (suc d.given) (d.line ++ (i ∷ [])) i (waits (suc d.given) (meant p) 0) (λ e. empty_not_waits (sym f.is_empty ∙ at_place e))

  waits_stepped : {Gives : Giving} {memory : ℕ} {e : Desk} {r : Stepped} → Sound d → Steps Gives memory d r e → StillWaits e number ⊎ (r ≡ Desks.done number)
  waits_stepped s (Desks.Steps.turned_away h) = inl w
  waits_stepped s (Desks.Steps.idle h none) = inl w
  waits_stepped s (one_more {i = i} {number = n} {own = own} {problem = problem} {rest = rest} h head st found more) = inl (at (ℕ_discrete w.place i))
    where
      at : Dec (w.place ≡ i) → StillWaits (moved d d.given (rest ++ (i ∷ [])) i (waits n problem (suc own))) number
      at (yes e) =
          let inside : i < desk_places = waiting_inside s.sixteen (record { number = n; problem = problem; own = own; there = st }) in
          let mine : n ≡ number = same_number (sym st.is ∙ at_place e) in
          record {
            place = i;
            problem = problem;
            own = suc own;
            there = record { is = here d d.given (rest ++ (i ∷ [])) i (waits n problem (suc own)) s.sixteen inside ∙ ap (λ (z : ℕ). waits z problem (suc own)) mine };
          }
      at (no k) = waits_there d.given (rest ++ (i ∷ [])) i (waits n problem (suc own)) k
  waits_stepped s (last_one {i = i} {number = n} {own = own} {class = class} {trials = trials} {span = span} {problem = problem} {rest = rest} {a = a} h head st last ans gave) = at (ℕ_discrete w.place i)
    where
      at : Dec (w.place ≡ i) → StillWaits (moved d d.given rest i (answered n problem class span trials a)) number ⊎ (Desks.done n ≡ Desks.done number)
      at (yes e) = let mine : n ≡ number = same_number (sym st.is ∙ at_place e) in inr (ap (λ (z : ℕ). Desks.done z) mine)
      at (no k) = inl (waits_there d.given rest i (answered n problem class span trials a) k)

  waits_collected : {memory t : ℕ} {e : Desk} {before after : List ℕ} {r : Collected} → Collects memory d t before r e after → StillWaits e number
  waits_collected (Desks.Collects.turned_away h) = w
  waits_collected (Desks.Collects.no_such_ticket h n) = w
  waits_collected (Desks.Collects.waits_yet h st) = w
  waits_collected (Desks.Collects.short_buffer h st b) = w
  waits_collected (handed_over {i = i} h st b) = waits_there d.given d.line i empty (λ e. answered_not_waits (sym st.is ∙ at_place e))

-- Over a run: reported, or it waits.
pub reported_or_waits : {Gives : Giving} {memory number k : ℕ} {d e : Desk} → Sound d → StillWaits d number → (run : Run Gives memory d k e) → Reported number run ⊎ StillWaits e number
unfolding Reported
reported_or_waits s w nothing = inr w
reported_or_waits s w (take_in run t) = ⊎_elim (λ h. inl h) (λ v. inr (waits_taken v t)) (reported_or_waits s w run)
reported_or_waits s w (one_step_is run t) =
    ⊎_elim (λ h. inl (inl h)) (λ v. ⊎_elim (λ u. inr u) (λ h. inl (inr h)) (waits_stepped v (sound_run run s) t)) (reported_or_waits s w run)
reported_or_waits s w (collect run t) = ⊎_elim (λ h. inl h) (λ v. inr (waits_collected v t)) (reported_or_waits s w run)

-- A problem that was taken in waits.
waits_at_first : {memory number : ℕ} {d e : Desk} {p : List ℕ} → Sound d → TakesIn memory d p (Desks.ticket number) e → StillWaits e number
waits_at_first {d = d} {p = p} s (taken {i = i} h f) = record {
  place = i;
  problem = meant p;
  own = 0;
  there = record { is = here d (suc d.given) (d.line ++ (i ∷ [])) i (waits (suc d.given) (meant p) 0) s.sixteen f.inside };
}

-- So of 16 steps for each trial that it takes one reports it,
pub reported_by_trials : {Gives : Giving} {memory : ℕ} {d e f : Desk} {p : List ℕ} {number k class trials : ℕ} {span : Trop} → FromOpening Gives memory d → TakesIn memory d p (Desks.ticket number) e
    → Found (problem_of (meant p)) class span trials → (run : Run Gives memory e k f) → desk_places * trials ≤ k → Reported number run
reported_by_trials o t found run long =
    let s = from_opening_sound o in
    ⊎_elim (λ h. h) (λ w. absurd (waits_no_longer o t found run long w.there)) (reported_or_waits (sound_taken s t) (waits_at_first s t) run)

-- and none takes more than 24.
pub reported_within : {Gives : Giving} {memory : ℕ} {d e f : Desk} {p : List ℕ} {number k : ℕ} → FromOpening Gives memory d → TakesIn memory d p (Desks.ticket number) e → (run : Run Gives memory e k f) → desk_steps ≤ k
    → Reported number run
reported_within {p = p} o t run long =
    let c = classed (problem_of (meant p)) in
    let few = desk_few (meant p) (taken_within t) c.found in
    reported_by_trials o t c.found run (omega arith)

-- Before that it is held, waiting.
pub waiting_or_reported : {Gives : Giving} {memory : ℕ} {d e f : Desk} {p : List ℕ} {number k : ℕ} → FromOpening Gives memory d → TakesIn memory d p (Desks.ticket number) e → (run : Run Gives memory e k f)
    → Reported number run ⊎ HeldWaiting f number (meant p)
waiting_or_reported {f = f} {number = number} o t run =
    let s = from_opening_sound o in
    ⊎_elim (λ h. inl h) (λ w. inr (subst (λ (q : List ℕ). HeldWaiting f number q) (waits_mine o t run w.there) (record { place = w.place; own = w.own; there = w.there })))
    (reported_or_waits (sound_taken s t) (waits_at_first s t) run)
