-- What a call changes: nothing, or one place. So what holds of each place is kept over every sequence where such a change keeps it.
use Prim.Native.Nat.{ℕ, suc, ◌≤◌, ◌<◌}
use mathlib.Core.Path.{◌≡◌, refl, sym, subst, ◌∙◌}
use mathlib.Core.List.{List, [], ◌∷◌, ◌++◌}
use native.Mathlib.Omega.{arith}
use native.Mathlib.Decide.{ℕ_discrete}
use Rattle.definitions.specs.Limits.{desk_places}
use Rattle.definitions.specs.Tropical.{Trop}
use Rattle.definitions.specs.ProblemRecord.{problem_of}
use Rattle.definitions.specs.AnswerRecord.{Answer}
use Rattle.definitions.specs.Solved.{Found, Giving}
use Rattle.definitions.specs.Desk.{Place, empty, waits, answered, Desk, place_at, Stands, TakenIn, TakesIn, taken, Stepped, Steps, one_more, last_one, Collected, Collects, handed_over, Run, nothing, take_in, one_step_is, collect, FromOpening}
use Rattle.definitions.specs.Desk as Desks
use Rattle.tickets.proofs.Sound.{Sound, empty_not_answered, beyond_empty, waiting_inside, moved, here, elsewhere, sound_opened, sixteen_empty, sound_run}

-- How a place changes, with so many tickets given out before: a problem enters it, goes on waiting, is answered, or was handed over.
pub data Becomes (given : ℕ) : Place → Place → Type 0 where
  enters : {problem : List ℕ} → Becomes given empty (waits (suc given) problem 0)
  goes_on :
      {number own class trials : ℕ} {span : Trop} {problem : List ℕ} → Found (problem_of problem) class span trials → suc own < trials
      → Becomes given (waits number problem own) (waits number problem (suc own))
  closes :
      {number own class trials : ℕ} {span : Trop} {problem : List ℕ} {a : Answer}
      → Becomes given (waits number problem own) (answered number problem class span trials a)
  frees : {number class own : ℕ} {span : Trop} {problem : List ℕ} {a : Answer} → Becomes given (answered number problem class span own a) empty

pub data Change (d : Desk) : Desk → Type 0 where
  none : Change d d
  one :
      (given : ℕ) (line : List ℕ) {i : ℕ} {was p : Place} → i < desk_places → Stands d i was → Becomes d.given was p
      → Change d (moved d given line i p)

-- ---- each call

waiting_there : {d : Desk} {i number own : ℕ} {problem : List ℕ} → Sound d → Stands d i (waits number problem own) → i < desk_places
waiting_there s st = waiting_inside s.sixteen (record { number = _; problem = _; own = _; there = st })

module _ {memory : ℕ} {d : Desk} (s : Sound d) where
  pub taken_changes : {p : List ℕ} {e : Desk} {r : TakenIn} → TakesIn memory d p r e → Change d e
  taken_changes (Desks.TakesIn.turned_away h) = none
  taken_changes (taken {i = i} h f) = one (suc d.given) (d.line ++ (i ∷ [])) f.inside (record { is = f.is_empty }) enters

  pub stepped_changes : {Gives : Giving} {e : Desk} {r : Stepped} → Steps Gives memory d r e → Change d e
  stepped_changes (Desks.Steps.turned_away h) = none
  stepped_changes (Desks.Steps.idle h empty-line) = none
  stepped_changes (one_more {i = i} {rest = rest} h head st found more) = one d.given (rest ++ (i ∷ [])) (waiting_there s st) st (goes_on found more)
  stepped_changes (last_one {rest = rest} h head st last ans gave) = one d.given rest (waiting_there s st) st closes

  pub collected_changes : {e : Desk} {number : ℕ} {before after : List ℕ} {r : Collected} → Collects memory d number before r e after → Change d e
  collected_changes (Desks.Collects.turned_away h) = none
  collected_changes (Desks.Collects.no_such_ticket h n) = none
  collected_changes (Desks.Collects.waits_yet h st) = none
  collected_changes (Desks.Collects.short_buffer h st b) = none
  collected_changes (handed_over {i = i} h st b) = one d.given d.line (beyond_empty d i s.sixteen (λ z. empty_not_answered (sym z ∙ st.is))) st frees

-- ---- sequences

-- Neither a step nor collecting gives a ticket out.
pub stepped_given : {Gives : Giving} {memory : ℕ} {d e : Desk} {r : Stepped} → Steps Gives memory d r e → e.given ≡ d.given
stepped_given (Desks.Steps.turned_away h) = refl
stepped_given (Desks.Steps.idle h empty-line) = refl
stepped_given (one_more h head st found more) = refl
stepped_given (last_one h head st last ans gave) = refl

pub collected_given : {memory number : ℕ} {d e : Desk} {before after : List ℕ} {r : Collected} → Collects memory d number before r e after → e.given ≡ d.given
collected_given (Desks.Collects.turned_away h) = refl
collected_given (Desks.Collects.no_such_ticket h n) = refl
collected_given (Desks.Collects.waits_yet h st) = refl
collected_given (Desks.Collects.short_buffer h st b) = refl
collected_given (handed_over h st b) = refl

-- So over a sequence their count never falls.
pub run_given : {Gives : Giving} {memory k : ℕ} {d e : Desk} → Run Gives memory d k e → d.given ≤ e.given
run_given nothing = omega arith
run_given (take_in run (Desks.TakesIn.turned_away h)) = run_given run
run_given (take_in run (taken h f)) = omega (arith, run_given run)
run_given (one_step_is run t) = omega (arith, run_given run, stepped_given t)
run_given (collect run t) = omega (arith, run_given run, collected_given t)

-- It holds of what stands at each place.
pub record Each (P : Place → Type 0) (d : Desk) : Type 0 where
  pub at : (i : ℕ) → P (place_at d i)

pub each_moved : {P : Place → Type 0} {d : Desk} (given : ℕ) (line : List ℕ) (i : ℕ) (p : Place) → Sound d → i < desk_places → P p → Each P d → Each P (moved d given line i p)
each_moved {P} {d} given line i p s inside new h = record { at = λ k. now k (ℕ_discrete k i) }
  where
    now : (k : ℕ) → Dec (k ≡ i) → P (place_at (moved d given line i p) k)
    now k (yes e) = rw (e, here d given line i p s.sixteen inside) new
    now k (no n) = rw (elsewhere d given line i p k n) (h.at k)

pub each_changed : {P : Place → Type 0} {d e : Desk} → Sound d → ((was p : Place) → Becomes d.given was p → P was → P p) → Each P d → Change d e → Each P e
each_changed s keeps h none = h
each_changed {P} {d} s keeps h (one given line {i = i} {was = was} {p = p} inside st b) = each_moved given line i p s inside (keeps was p b (subst P st.is (h.at i))) h

-- Over a sequence, where changes keep it once so many tickets are given out.
pub each_run : {Gives : Giving} {P : Place → Type 0} {memory k : ℕ} {d e : Desk} (low : ℕ) → low ≤ d.given
    → ((given : ℕ) (was p : Place) → low ≤ given → Becomes given was p → P was → P p) → Sound d → Each P d → Run Gives memory d k e → Each P e
each_run low l keeps s h nothing = h
each_run low l keeps s h (take_in run t) =
    let z = sound_run run s in each_changed z (λ was p b old. keeps _ was p (omega (arith, run_given run)) b old) (each_run low l keeps s h run) (taken_changes z t)
each_run low l keeps s h (one_step_is run t) =
    let z = sound_run run s in each_changed z (λ was p b old. keeps _ was p (omega (arith, run_given run)) b old) (each_run low l keeps s h run) (stepped_changes z t)
each_run low l keeps s h (collect run t) =
    let z = sound_run run s in each_changed z (λ was p b old. keeps _ was p (omega (arith, run_given run)) b old) (each_run low l keeps s h run) (collected_changes z t)

-- ---- every answer is one that the engine gives

data Given (Gives : Giving) : Place → Type 0 where
  given_empty : Given Gives empty
  given_waits : {number own : ℕ} {problem : List ℕ} → Given Gives (waits number problem own)
  given_answered : {number class own : ℕ} {span : Trop} {problem : List ℕ} {a : Answer} → Gives problem a → Given Gives (answered number problem class span own a)

given_run : {Gives : Giving} {memory k : ℕ} {d e : Desk} → Sound d → Each (Given Gives) d → Run Gives memory d k e → Each (Given Gives) e
given_run s h nothing = h
given_run s h (take_in run (Desks.TakesIn.turned_away g)) = given_run s h run
given_run s h (take_in run (taken {i = i} g f)) = each_moved _ _ i _ (sound_run run s) f.inside given_waits (given_run s h run)
given_run s h (one_step_is run (Desks.Steps.turned_away g)) = given_run s h run
given_run s h (one_step_is run (Desks.Steps.idle g l)) = given_run s h run
given_run s h (one_step_is run (one_more {i = i} g l st found more)) = let z = sound_run run s in each_moved _ _ i _ z (waiting_there z st) given_waits (given_run s h run)
given_run s h (one_step_is run (last_one {i = i} g l st last ans gave)) = let z = sound_run run s in each_moved _ _ i _ z (waiting_there z st) (given_answered gave) (given_run s h run)
given_run s h (collect run (Desks.Collects.turned_away g)) = given_run s h run
given_run s h (collect run (Desks.Collects.no_such_ticket g n)) = given_run s h run
given_run s h (collect run (Desks.Collects.waits_yet g st)) = given_run s h run
given_run s h (collect run (Desks.Collects.short_buffer g st b)) = given_run s h run
given_run s h (collect {e = e} run (handed_over {i = i} g st b)) =
    let z = sound_run run s in each_moved _ _ i _ z (beyond_empty e i z.sixteen (λ n. empty_not_answered (sym n ∙ st.is))) given_empty (given_run s h run)

of_answered : {Gives : Giving} {number class own : ℕ} {span : Trop} {problem : List ℕ} {a : Answer} → Given Gives (answered number problem class span own a) → Gives problem a
of_answered (given_answered g) = g

pub answered_given : {Gives : Giving} {memory i number class own : ℕ} {d : Desk} {span : Trop} {problem : List ℕ} {a : Answer} → FromOpening Gives memory d
    → Stands d i (answered number problem class span own a) → Gives problem a
answered_given {Gives = Gives} {i = i} o st =
    of_answered (subst (Given Gives) st.is ((given_run sound_opened (record { at = λ k. rw (sixteen_empty k) given_empty }) o.run).at i))
