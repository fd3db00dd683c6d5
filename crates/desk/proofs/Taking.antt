-- Opening and taking in, as the machine's transitions.
use Prim.Native.Nat.{ℕ, zero, suc, ◌+◌, ◌*◌, ◌%◌, ◌≤◌, ◌<◌}
use mathlib.Core.Path.{◌≡◌, refl, sym, ap, ◌∙◌}
use mathlib.Core.Bool.{Bool, cond}
use mathlib.Core.Logic.{⊎_elim}
use mathlib.Core.List.{List, [], ◌∷◌, ◌++◌}
use native.Mathlib.Omega.{arith}
use lib.ListN.{length, get_or, set, replicate, length-set, length-replicate, get_or-replicate, length-append}
use lib.Seq.{get_or-set_same}
use borrow.Author.Tests.{le-ltb, le-leb, lt-leb}
use Rattle.std.specs.Prelude.{Option, Some, None, Result, Ok, Err}
use Rattle.definitions.specs.Limits.{desk_places, desk_memory, problem_most, last_ticket, refused_memory}
use Rattle.definitions.specs.Bytes.{first, put}
use Rattle.definitions.specs.ProblemRecord.{meant}
use Rattle.definitions.specs.Desk as Machine
use Rattle.definitions.specs.Desk.{memory_refused, desk_refusal, WithinDesk, place_at, held, take_refusal, TakesIn, taken}
use Rattle.definitions.proofs.Put.{length_put}
use Rattle.definitions.proofs.Refusals.{or_else_suc}
use Rattle.records.specs.declared.refusal.Refusal.{Refusal}
use Rattle.records.specs.declared.refusal.Refusal.TheVariants.{Full, Memory}
use Rattle.records.specs.Refusals.{number_of, refused_by}
use Rattle.records.proofs.Refusing.{number_range}
use Rattle.engine.specs.declared.one_trial.Pending.{Pending}
use Rattle.engine.specs.OneTrial.{BegunFor}
use Rattle.desk.specs.declared.state.Front.{Front}
use Rattle.desk.specs.declared.state.Place.{Place}
use Rattle.desk.specs.declared.calls.Taking.{Taking}
use Rattle.desk.specs.State.{Desk, desk_of, no_place, place_in, FirstWith, FirstFree, Room, ring, bytes_at, blank_place, PlaceIs, is_empty, is_waiting}
use Rattle.desk.specs.Calls.{Left, OpenedBy, TakenAt, TookIn, CanTake, entry, TookAt}
use Rattle.tickets.proofs.Sound.{from_opening_sound, sound_taken, line_few}
use Rattle.desk.proofs.Ring.{ring_length, ring_join}
use Rattle.desk.proofs.Kept.{kept_here, kept_there, fits_place}
use Rattle.desk.proofs.Holding.{place_empty, others_stay, holds_moved, first_empty, held_sixteen, held_fewer, size_known}

-- ---- 23

pub memory_enough : (memory : ℕ) → desk_memory ≤ memory → first (memory_refused memory ∷ []) ≡ 0
memory_enough memory h = ap (λ (b : Bool). cond b refused_memory 0) (le-ltb memory desk_memory h)

-- ---- opening

pub opened_ready : {memory : List ℕ} → desk_memory ≤ length memory → OpenedBy memory (Ok (record { given = 0; head = 0; waiting = 0; line = replicate 16 0 }))
unfolding ring
opened_ready h = record {
  short = λ l. absurd (omega arith);
  ready = λ _. (
    _,
    refl,
    record {
      fits = record { line_size = length-replicate {A = ℕ} 16 0; head_inside = omega arith; few = omega arith };
      size = length-replicate {A = Place} 16 blank_place;
      given_is = refl;
      line_is = refl;
      places_size = length-replicate {A = Machine.Place} desk_places Machine.empty;
      places = λ i h. rw (get_or-replicate {A = Place} 16 i blank_place no_place h, get_or-replicate {A = Machine.Place} desk_places i Machine.empty Machine.empty h) (is_empty refl);
    },
  );
}

pub opened_short : {memory : List ℕ} → length memory < desk_memory → OpenedBy memory (Err Memory)
opened_short h = record { short = λ _. refl; ready = λ l. absurd (omega arith) }

-- ---- refusals of taking in

-- A problem that was begun has none.
none_refused : {s : List ℕ} {b : Result Pending Refusal} {begun : Pending} → BegunFor s b → b ≡ Ok begun → desk_refusal s ≡ 0
none_refused g z = sym g.refused_is ∙ ap refused_by z

module _ {f : Front} {at : Option ℕ} {memory p : List ℕ} where
  pub took_short : length memory < desk_memory → TookAt f at memory p (Err Memory) memory
  took_short h = record { short = λ _. (refl, refl); moves = λ l. absurd (omega arith) }

  module _ (enough : desk_memory ≤ length memory) where
    -- A refusal changes nothing.
    took_nothing : (k : Refusal)
        → ((places : List Place) (left : Left (desk_of f places) memory) → FirstFree (desk_of f places) at → take_refusal (length memory) left.state p ≡ number_of k) → TookAt f at memory p (Err k) memory
    unfolding TookIn
    took_nothing k refusal = record {
      short = λ l. absurd (omega arith);
      moves = λ _ left free. (turned_away_by (refusal _ left free), refl);
    }
      where
        turned_away_by : {state : Machine.Desk} → take_refusal (length memory) state p ≡ number_of k → TakesIn (length memory) state p (Machine.TakenIn.refused (number_of k)) state
        turned_away_by {state} e = go (number_of k) (number_range k).0 e
          where
            go : (number : ℕ) → 0 < number → take_refusal (length memory) state p ≡ number → TakesIn (length memory) state p (Machine.TakenIn.refused number) state
            go zero h e = absurd (omega arith)
            go (suc number) h e = TakesIn.turned_away e

    -- The problem's refusals come first,
    pub took_refused : {b : Result Pending Refusal} {k : Refusal} → b ≡ Err k → BegunFor (meant p) b → TookAt f at memory p (Err k) memory
    unfolding take_refusal
    took_refused {b} {k} e g =
        let refused : desk_refusal (meant p) ≡ number_of k = sym g.refused_is ∙ ap refused_by e in
        let some = (number_range k).0 in
        took_nothing k (λ places left free. rw (memory_enough (length memory) enough, refused) (or_else_suc (number_of k) _ some))

    module _ {b : Result Pending Refusal} {begun : Pending} (z : b ≡ Ok begun) (g : BegunFor (meant p) b) where
      -- then 21: all places are held,
      pub took_full : at ≡ None → TookAt f at memory p (Err Full) memory
      unfolding take_refusal
      took_full e = took_nothing Full (λ places left free.
          let all = held_sixteen left.holds (free.nowhere e) in
          rw (memory_enough (length memory) enough, none_refused g z, le-leb desk_places (held left.state.places) (omega arith)) refl)

      -- or the tickets are used up.
      pub took_last : {i : ℕ} → at ≡ Some i → f.given ≡ last_ticket → TookAt f at memory p (Err Full) memory
      unfolding take_refusal
      took_last e last = took_nothing Full (λ places left free.
          let some = held_fewer left.holds (free.found _ e) in
          rw (memory_enough (length memory) enough, none_refused g z, lt-leb desk_places (held left.state.places) some, le-leb last_ticket left.state.given (omega (arith, left.holds.given_is))) refl)

-- ---- one taken in

module _ (f : Front) (free : Option ℕ) (at : ℕ) (memory p : List ℕ) {b : Result Pending Refusal} {begun : Pending} (enough : desk_memory ≤ length memory) (z : b ≡ Ok begun) (g : BegunFor (meant p) b)
    (here : free ≡ Some at) (below : f.given < last_ticket) where
  within : WithinDesk (meant p)
  within = none_refused g z

  abbrev c : Place
  c = (entry f at p begun).place

  module _ {places : List Place} (left : Left (desk_of f places) memory) (first : FirstWith (desk_of f places) 0 at) where
    abbrev d : Desk
    d = desk_of f places

    abbrev state : Machine.Desk
    state = left.state

    inside : at < desk_places
    inside = first.inside

    abbrev next : Machine.Desk
    next = record { given = suc state.given; line = state.line ++ (at ∷ []); places = set state.places at (Machine.waits (suc state.given) (meant p) 0) }

    -- Nothing refuses it.
    takes : TakesIn (length memory) state p (Machine.ticket (suc state.given)) next
    unfolding take_refusal
    takes = taken (rw (memory_enough (length memory) enough, within, lt-leb desk_places (held state.places) (held_fewer left.holds first), lt-leb last_ticket state.given (omega (arith, left.holds.given_is))) refl)
        (first_empty left.holds first)

    -- There is room for it: the line is shorter than 16.
    room : Room f at p memory
    room =
        let few = line_few (sound_taken (from_opening_sound left.from_opening) takes) in
        let long = ap (λ (z : List ℕ). length z) (sym left.holds.line_is) ∙ ring_length f.line f.head f.waiting in
        record { fits = left.holds.fits; inside = inside; few = omega (arith, length-append state.line (at ∷ [])); ticket_left = below; short = fits_place p within; memory_enough = enough }

    abbrev memory' : List ℕ
    memory' = put memory (at * problem_most) p

    new : PlaceIs (bytes_at memory' at (length p)) c (Machine.waits (suc state.given) (meant p) 0)
    new =
        let ticket : f.given + 1 ≡ suc state.given = omega (arith, left.holds.given_is) in
        let none : begun.search.made ≡ 0 = ap (λ (s : Pending). s.search.made) (g.fresh_is begun z) in
        rw (kept_here memory p at enough inside room.short, ← ticket, ← none) (is_waiting (record { some = omega arith; size_most = room.short }) (g.begun begun z))

    others : (k : ℕ) → k < desk_places → (k ≡ at → ⊥) → PlaceIs (bytes_at memory' k (place_in d k).size) (place_in d k) (place_at state k)
    others k l n = ⊎_elim
        (λ (blank : place_in d k ≡ blank_place). rw (place_empty (left.holds.places k l) (ap (λ (x : Place). x.ticket) blank)) (is_empty blank))
        (λ (size : (place_in d k).size ≤ problem_most). rw (kept_there memory p at enough inside room.short k (place_in d k).size n size) (left.holds.places k l))
        (size_known (left.holds.places k l))

    taken_at : TakenAt d memory p state at (f.given + 1) (desk_of (entry f at p begun).front (set places at c)) memory'
    taken_at =
        let ticket : f.given + 1 ≡ suc state.given = omega (arith, left.holds.given_is) in
        let here : get_or (set places at c) at no_place ≡ c = get_or-set_same places at c no_place (omega (arith, inside, left.holds.size)) in
        record {
          first = first_empty left.holds first;
          memory_is = refl;
          same_length = length_put memory (at * problem_most) p (omega arith) (omega (arith, room.short, inside));
          begun = (ap (λ (x : Place). x.size) here, ap (λ (x : Place). x.pending) here ∙ g.fresh_is begun z);
          others = others_stay _ _ _;
          next = next;
          takes = rw ticket takes;
          holds = holds_moved left.holds
              (record { line_size = length-set f.line ((f.head + f.waiting) % desk_places) at ∙ left.holds.fits.line_size; head_inside = left.holds.fits.head_inside; few = omega (arith, room.few) })
              ticket
              (ring_join f.line f.head f.waiting at left.holds.fits.line_size room.few ∙ ap (λ (l : List ℕ). l ++ (at ∷ [])) left.holds.line_is)
              inside others new;
        }

  pub can_room : CanTake f free memory → Room f at p memory
  can_room can = room (can.left enough) (can.free.found at here)

  pub took_one : {r : Taking} {memory' : List ℕ} → r ≡ entry f at p begun → memory' ≡ put memory (at * problem_most) p → TookAt f free memory p (Ok r) memory'
  unfolding TookIn
  took_one e m = rw (e, m) (record { short = λ l. absurd (omega arith); moves = λ _ left first. (at, here, taken_at left (first.found at here)) })
