-- The calls over lent words, from the calls over the desk that the words hold.
use Prim.Native.Nat.{ℕ, ◌≤◌, ◌<◌}
use mathlib.Core.Path.{◌≡◌, refl, sym, ap, subst, ◌∙◌}
use mathlib.Core.Logic.{◌⊎◌, inl, inr}
use mathlib.Core.List.{List}
use native.Mathlib.Omega.{arith}
use native.Mathlib.Decide.{ℕ_discrete}
use lib.ListN.{length, replicate, get_or}
use Rattle.std.specs.Prelude.{Bool, true, false, cond, Option, Some, None, Result, Ok, Err, IsOk, IsSome, MatchOption}
use Rattle.std.specs.Option.{IsSomeAnd}
use Rattle.definitions.specs.Limits.{desk_memory, desk_places, most_trials}
use Rattle.definitions.specs.Tropical.{Trop}
use Rattle.definitions.specs.Problem.{Problem}
use Rattle.definitions.specs.Solved.{Found, optimal, unbounded, infeasible}
use Rattle.definitions.specs.Desk as Machine
use Rattle.definitions.specs.Desk.{FromOpening, Collects}
use Rattle.records.specs.declared.refusal.Refusal.{Refusal}
use Rattle.records.specs.Classes.{class_number}
use Rattle.records.specs.Refusals.{number_of}
use Rattle.engine.specs.declared.solve.Answered.{Answered}
use Rattle.engine.specs.Outcome.{Gives}
use Rattle.desk.specs.declared.state.Front.{Front}
use Rattle.desk.specs.declared.state.Place.{Place}
use Rattle.desk.specs.declared.calls.Taking.{Taking}
use Rattle.desk.specs.declared.calls.Stepping.{Stepping}
use Rattle.desk.specs.State.{desk_of, Fits, place_in, head_of, FirstFree, HoldsTicket, blank_place}
use Rattle.desk.specs.Calls.{Left, OpenedBy, CanTake, TookIn, TookAt, AtHead, CanStep, HeadTried, stepped_as, DidStep, StepAt, stands_at, CanCollect, DidCollect, CollectedAt}
use Rattle.tickets.proofs.Holds.{desk_holds}
use Rattle.desk.proofs.Taking.{memory_enough}
use Rattle.desk_words.specs.Words.{desk_words, places_in, front_from, desk_from, seated_in, DeskPut, class_place, ClassTold, ClassPut}
use Rattle.lent_desk.specs.Entries.{AsLent, OverLent, TooShort, Inside, ClassesKept, OpenedAs, TakenFrom, TakenAs, Tells, done_number, goes_on_number, SteppedFrom, SteppedAs, CollectedFrom, CollectedAs, handed_number}

-- What is lent is too short: nothing changes.
pub over_short : {memory words : List ℕ} {number : ℕ} {Still : ℕ → Type 0} {Made : Type 0} → TooShort memory words number → Still number → OverLent memory words Still Made
over_short (TooShort.short h) s = OverLent.short h s
over_short (TooShort.too_few h f) s = OverLent.too_few h f s

-- The class words of one place stored.
kept_put : {at : ℕ} {words after : List ℕ} → ClassPut at words after → ClassesKept words after
kept_put {at} {words} {after} p k h = at_place (ℕ_discrete k at)
  where
    at_place : Dec (k ≡ at) → ClassTold after k ⊎ (get_or after (class_place k) 0 ≡ get_or words (class_place k) 0)
    at_place (yes e) = inl (rw e p.here)
    at_place (no n) = inr (p.there k h n)

-- ---- opening

pub opens : {memory : List ℕ} {r : Result Front Refusal} → desk_memory ≤ length memory → OpenedBy memory r → IsOk r
opens h o = rw (o.ready h).1 refl

pub opened_words : {memory words after : List ℕ} {r : Result Front Refusal} {f : Front} {c : Place} → desk_memory ≤ length memory → desk_words ≤ length words → OpenedBy memory r → r ≡ Ok f → c ≡ blank_place
    → DeskPut (desk_of f (replicate desk_places c)) 0 words after → ((k : ℕ) → k < desk_places → ClassTold after k) → OpenedAs memory words 0 after
opened_words {memory} {words} {after} {f = f} h w o e z put classes =
    let ready = o.ready h in
    let same : ready.0 ≡ f = (let both : Ok ready.0 ≡ Ok f = sym ready.1 ∙ e in cc) in
    let put = rw z at put in
    let stored : DeskPut (desk_from after) 0 words after = rw put.back put in
    OverLent.makes h w (refl, Machine.opens (memory_enough (length memory) h), rw (put.back, ← same) ready.2, (stored, classes))

-- ---- taking in

module _ {memory words : List ℕ} {front : Front} {at : Option ℕ} (h : desk_memory ≤ length memory) (w : desk_words ≤ length words) (lent : AsLent memory words) (e : front ≡ front_from words)
    (free : FirstFree (desk_from words) at) where
  pub can_take : CanTake front at memory
  can_take = rw e (record { places = places_in words; left = lent.left w; free = free })

  took : {p memory' : List ℕ} {r : Result Taking Refusal} → TookAt front at memory p r memory' → (left : Left (desk_from words) memory) → TookIn (desk_from words) memory p left.state at r memory'
  took {p} {memory'} {r} t left = (subst (λ (z : Front). TookAt z at memory p r memory') e t).moves h left free

  pub take_refused : {p memory' : List ℕ} {k : Refusal} → TookAt front at memory p (Err k) memory' → TakenAs memory words p (number_of k) memory' words
  unfolding TookIn took
  take_refused t = rw (took t (lent.left w h)).1 (OverLent.makes h w (λ left. TakenFrom.refused (took t left).0))

  module _ {p memory' : List ℕ} {r : Taking} (t : TookAt front at memory p (Ok r) memory') where
    -- What is taken in has a place.
    pub take_some : IsSome at
    unfolding TookIn took
    take_some = rw (took t (lent.left w h)).1 refl

    module _ {i : ℕ} (s : at ≡ Some i) where
      pub take_inside : i < desk_places
      take_inside = (free.found i s).inside

      pub take_ticket : {after : List ℕ} → DeskPut (seated_in words r.front i r.place) r.ticket words after → ClassPut i words after → TakenAs memory words p 0 memory' after
      unfolding TookIn took
      take_ticket put classes = OverLent.makes h w (λ left.
          let m = took t left in
          let same : m.0 ≡ i = (let both : Some m.0 ≡ Some i = sym m.1 ∙ s in cc) in
          TakenFrom.taken (rw (← put.back) at (rw same at m.2)) (rw put.back put, kept_put classes))

-- ---- a step

-- The head and the line of a front that was loaded.
pub front_fits : {memory words : List ℕ} {front : Front} → desk_memory ≤ length memory → desk_words ≤ length words → AsLent memory words → front ≡ front_from words → Fits front
front_fits h w lent e = rw e (lent.left w h).holds.fits

tells : (s : Stepping) (b : Bool) → s.done ≡ b → Tells (stepped_as s) s.ticket (cond b done_number goes_on_number)
tells s true e = rw e Tells.done
tells s false e = rw e Tells.goes_on

module _ {memory words : List ℕ} {front : Front} {at : ℕ} {c : Place} (h : desk_memory ≤ length memory) (w : desk_words ≤ length words) (lent : AsLent memory words) (e : front ≡ front_from words)
    (head : at ≡ head_of front) (here : at < desk_places → place_in (desk_from words) at ≡ c) where
  stands : AtHead front (places_in words) c
  stands = rw head at here

  pub can_step : CanStep front c memory
  can_step = record { places = places_in words; left = rw e (lent.left w); here = stands }

  did : {r : Result (Option Stepping) Refusal} → StepAt front c memory r → (left : Left (desk_from words) memory) → DidStep (desk_from words) memory left.state r
  did {r} t = subst (λ (z : Front). (left : Left (desk_of z (places_in words)) memory) → DidStep (desk_of z (places_in words)) memory left.state r) e (λ left. t.moves h left stands)

  pub step_refused : {k : Refusal} → StepAt front c memory (Err k) → ⊥
  unfolding DidStep did
  step_refused t = did t (lent.left w h)

  pub step_none : StepAt front c memory (Ok None) → SteppedAs memory words 0 words
  unfolding DidStep did
  step_none t = OverLent.makes h w (λ left. SteppedFrom.idle (did t left))

  at_is : head_of (front_from words) ≡ at
  at_is = sym (ap head_of e) ∙ sym head

  module _ {s : Stepping} (t : StepAt front c memory (Ok (Some s))) where
    tried : (left : Left (desk_from words) memory) → HeadTried (desk_from words) memory left.state (stepped_as s) (seated_in words s.front at s.place)
    unfolding DidStep did
    tried left = rw at_is at (did t left)

    pub step_inside : at < desk_places
    step_inside = rw (← at_is) (tried (lent.left w h)).inside

    pub step_told : {b : Bool} {after : List ℕ} → s.done ≡ b → DeskPut (seated_in words s.front at s.place) s.ticket words after → ClassPut at words after → SteppedAs memory words (cond b done_number goes_on_number) after
    step_told d put classes = OverLent.makes h w (λ left. SteppedFrom.tried (tells s _ d) (rw (← put.back) at (tried left)) (rw put.back put, kept_put classes))

-- ---- collecting

-- The place that is told, as it is loaded.
pub held_as : (words : List ℕ) (at : Option ℕ) (held : Option Place) {Q : ℕ → Place → Type 0} → Inside at
    → ((i : ℕ) (p : Place) → Q i p → i < desk_places → place_in (desk_from words) i ≡ p) → MatchOption at (held ≡ None) (λ i. IsSomeAnd held (Q i)) → held ≡ stands_at (desk_from words) at
held_as words None held inside loads m = m
held_as words (Some i) None inside loads m = absurd m
held_as words (Some i) (Some p) inside loads m = ap Some (sym (loads i p m inside))

pub held_inside : (words : List ℕ) {ticket : ℕ} (at : Option ℕ) → HoldsTicket (desk_from words) ticket at → Inside at
held_inside words None found = tt
held_inside words (Some i) found = (found.held i refl).1.inside

found_class : {p : Problem} {class trials : ℕ} {span : Trop} → Found p class span trials → class ≤ 3
found_class (optimal o) = omega arith
found_class (unbounded u) = omega arith
found_class (infeasible i) = omega arith

-- Class and own trials of a collected answer are small.
collected_few : {memory number class own size : ℕ} {span : Trop} {state next : Machine.Desk} {before after : List ℕ} → FromOpening Gives memory state
    → Collects memory state number before (Machine.collected class span own size) next after → (class ≤ 3) × (own ≤ most_trials)
collected_few o (Collects.handed_over e g l) = (found_class (desk_holds.answers_alone o g).1.found, desk_holds.trials_of_answered o g)

module _ {memory words : List ℕ} {at : Option ℕ} {ticket : ℕ} {c : Option Place} (h : desk_memory ≤ length memory) (w : desk_words ≤ length words) (lent : AsLent memory words)
    (found : HoldsTicket (desk_from words) ticket at) (here : c ≡ stands_at (desk_from words) at) where
  pub can_collect : CanCollect c memory
  can_collect = record { desk = desk_from words; ticket = ticket; at = at; left = lent.left w; found = found; here = here }

  gave : {buffer buffer' : List ℕ} {r : Result (Option Answered) Refusal} → CollectedAt c memory buffer r buffer' → (left : Left (desk_from words) memory)
      → DidCollect (desk_from words) memory left.state ticket buffer at r buffer'
  gave t left = t.moves h left found here

  pub collect_refused : {buffer buffer' : List ℕ} {k : Refusal} → CollectedAt c memory buffer (Err k) buffer' → CollectedAs memory words ticket buffer (number_of k) words buffer'
  unfolding DidCollect gave
  collect_refused t = rw (gave t (lent.left w h)).1 (OverLent.makes h w (λ left. CollectedFrom.refused (gave t left).0))

  pub collect_waits : {buffer buffer' : List ℕ} → CollectedAt c memory buffer (Ok None) buffer' → CollectedAs memory words ticket buffer 0 words buffer'
  unfolding DidCollect gave
  collect_waits t = rw (gave t (lent.left w h)).1 (OverLent.makes h w (λ left. CollectedFrom.still_waits (gave t left).0))

  module _ {buffer buffer' : List ℕ} {a : Answered} (t : CollectedAt c memory buffer (Ok (Some a)) buffer') where
    -- What is handed over has a place, and its numbers are small.
    pub collect_some : IsSome at
    unfolding DidCollect gave
    collect_some = rw (gave t (lent.left w h)).1 refl

    pub collect_few : (class_number a.class ≤ 3) × (a.trials ≤ most_trials)
    unfolding DidCollect gave
    collect_few = let left = lent.left w h in collected_few left.from_opening (gave t left).2.collects

    module _ {i : ℕ} (s : at ≡ Some i) where
      pub collect_inside : i < desk_places
      collect_inside = (found.held i s).1.inside

      pub collect_handed : {number : ℕ} {after : List ℕ} {front : Front} {free : Place} → number ≡ handed_number (class_number a.class) a.trials → front ≡ front_from words → free ≡ blank_place
          → DeskPut (seated_in words front i free) ticket words after → ClassPut i words after → CollectedAs memory words ticket buffer number after buffer'
      unfolding DidCollect gave
      collect_handed n e b put classes =
          let put = rw (e, b) at put in
          rw n (OverLent.makes h w (λ left.
          let m = gave t left in
          let same : m.0 ≡ i = (let both : Some m.0 ≡ Some i = sym m.1 ∙ s in cc) in
          CollectedFrom.handed (rw (← put.back) at (rw same at m.2)) (rw put.back put, kept_put classes)))
