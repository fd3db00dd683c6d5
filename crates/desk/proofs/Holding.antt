-- Which state of the machine the desk holds: what stands at a place, the head of the line, a place that changed.
use Prim.Native.Nat.{ℕ, ◌+◌, ◌-◌, ◌%◌, ◌≤◌, ◌<◌}
use mathlib.Core.Path.{◌≡◌, refl, sym, ap, ◌∙◌}
use mathlib.Core.Logic.{◌⊎◌, inl, inr}
use mathlib.Core.List.{List, [], ◌∷◌}
use native.Mathlib.Omega.{arith}
use native.Mathlib.Decide.{ℕ_discrete}
use lib.ListN.{get_or, set, length-set}
use lib.Seq.{get_or-set_same, get_or-set_other}
use Rattle.std.specs.Prelude.{Option, Some, None, true, false}
use Rattle.std.specs.Option.{is_some}
use Rattle.definitions.specs.Limits.{desk_places, problem_most}
use Rattle.definitions.specs.Offset.{trop_of}
use Rattle.definitions.specs.ProblemRecord.{meant}
use Rattle.definitions.specs.Desk as Machine
use Rattle.definitions.specs.Desk.{place_at, ticket_of, held, FirstEmpty}
use Rattle.engine.specs.OneTrial.{class_in, span_in, PendingFor, answer_with, AnsweredFor}
use Rattle.engine.proofs.Trials.{pending_open}
use Rattle.desk.specs.declared.state.Place.{Place}
use Rattle.desk.specs.declared.state.Front.{Front}
use Rattle.desk.specs.State.{Desk, desk_of, Fits, no_place, place_in, head_of, OthersStay, FirstWith, NoneWith, ring, bytes_at, Seated, blank_place, PlaceIs, is_empty, is_waiting, is_answered, Holds}
use Rattle.tickets.proofs.Line.{At}
use Rattle.tickets.proofs.Sound.{Sound, waiting_inside, empty_not_waits, answered_not_waits}
use Rattle.tickets.proofs.Places.{held_less, held_all}
use Rattle.desk.proofs.Ring.{ring_head}

-- ---- tests of an option

pub some_not_none : {A : Type 0} (o : Option A) → is_some o ≡ true → o ≡ None → ⊥
some_not_none None e f = cc
some_not_none (Some x) e f = cc

pub none_is : {A : Type 0} (o : Option A) → is_some o ≡ false → o ≡ None
none_is None e = refl
none_is (Some x) e = absurd cc

-- ---- what stands at a place

-- What the code's place says of a problem that waits, and of one that is answered.
pub record WaitsAs (bytes : List ℕ) (c : Place) (p : Machine.Place) : Type 0 where
  pub seated : Seated c
  pub pending : PendingFor (meant bytes) c.pending
  pub is : p ≡ Machine.waits c.ticket (meant bytes) c.pending.search.made

pub record AnsweredAs (bytes : List ℕ) (c : Place) (ticket : ℕ) (p : Machine.Place) : Type 0 where
  pub seated : Seated c
  pub answer : AnsweredFor (meant bytes) c.pending
  pub is : p ≡ Machine.answered ticket (meant bytes) (class_in c.pending) (trop_of (span_in c.pending)) c.pending.search.made
      (answer_with (meant bytes) c.pending answer.stamps answer.picks)

module _ {bytes : List ℕ} {c : Place} where
  -- A place without a ticket is empty,
  pub place_empty : {p : Machine.Place} → PlaceIs bytes c p → c.ticket ≡ 0 → p ≡ Machine.empty
  place_empty (is_empty z) e = refl
  place_empty (is_waiting s g) e = absurd (let some = s.some in omega arith)
  place_empty (is_answered s g) e = absurd (let some = s.some in omega arith)

  -- and one with a ticket holds it.
  pub place_ticket : {p : Machine.Place} → PlaceIs bytes c p → ticket_of p ≡ c.ticket
  unfolding ticket_of
  place_ticket (is_empty z) = sym (ap (λ (c : Place). c.ticket) z)
  place_ticket (is_waiting s g) = refl
  place_ticket (is_answered s g) = refl

  pub place_waits : {p : Machine.Place} {number own : ℕ} {problem : List ℕ} → PlaceIs bytes c p → p ≡ Machine.waits number problem own → WaitsAs bytes c p
  place_waits (is_empty z) e = absurd (empty_not_waits e)
  place_waits (is_waiting s g) e = record { seated = s; pending = g; is = refl }
  place_waits (is_answered s g) e = absurd (answered_not_waits e)

  -- A place with this ticket whose class is open waits; else it is answered.
  pub place_open : {p : Machine.Place} {ticket : ℕ} → PlaceIs bytes c p → c.ticket ≡ ticket → 0 < ticket → c.pending.search.class ≡ None → p ≡ Machine.waits ticket (meant bytes) c.pending.search.made
  place_open (is_empty z) t some e = absurd (omega (arith, ap (λ (c : Place). c.ticket) z))
  place_open (is_waiting s g) t some e = rw t refl
  place_open (is_answered s g) t some e = absurd (g.closed e)

  pub place_closed : {p : Machine.Place} {ticket : ℕ} → PlaceIs bytes c p → c.ticket ≡ ticket → 0 < ticket → (c.pending.search.class ≡ None → ⊥) → AnsweredAs bytes c ticket p
  place_closed (is_empty z) t some e = absurd (omega (arith, ap (λ (c : Place). c.ticket) z))
  place_closed (is_waiting s g) t some e = absurd (e (pending_open g))
  place_closed (is_answered s g) t some e = record { seated = s; answer = g; is = rw t refl }

  -- The size that a place tells fits, unless it is empty.
  pub size_known : {p : Machine.Place} → PlaceIs bytes c p → (c ≡ blank_place) ⊎ (c.size ≤ problem_most)
  size_known (is_empty z) = inl z
  size_known (is_waiting s g) = inr s.size_most
  size_known (is_answered s g) = inr s.size_most

-- One place changed.
pub others_stay : {f : Front} (d : Desk) (i : ℕ) (c : Place) → OthersStay d i (desk_of f (set d.places i c))
others_stay d i c = record { stay = λ k n. get_or-set_other d.places i k c no_place n }

empty_ticket : ticket_of Machine.empty ≡ 0
unfolding ticket_of
empty_ticket = refl

module _ {d : Desk} {memory : List ℕ} {state : Machine.Desk} (h : Holds d memory state) where
  -- ---- the line

  -- Nobody waits.
  pub none_wait : d.front.waiting ≡ 0 → state.line ≡ []
  unfolding ring
  none_wait e = sym h.line_is ∙ ap (λ (k : ℕ). ring d.front.line d.front.head k) e

  -- The head of the line, and the others.
  pub line_head : 0 < d.front.waiting → state.line ≡ head_of d.front ∷ ring d.front.line ((d.front.head + 1) % 16) (d.front.waiting - 1)
  line_head some = sym h.line_is ∙ ring_head d.front.line d.front.head d.front.waiting h.fits.head_inside some

  -- What the head says of its problem.
  pub record HeadAs (at : ℕ) : Type 0 where
    pub inside : at < desk_places
    pub waits_as : WaitsAs (bytes_at memory at (place_in d at).size) (place_in d at) (place_at state at)

  pub head_as : Sound state → 0 < d.front.waiting → HeadAs (head_of d.front)
  head_as s some =
      let first : At state.line (head_of d.front) 0 = rw (line_head some) (record { inside = omega arith; is = refl }) in
      let w = s.line.wait first in
      let inside = waiting_inside s.sixteen w in
      record { inside = inside; waits_as = place_waits (h.places (head_of d.front) inside) w.there.is }

  -- ---- a place that changed

  -- With another front, and another place at this one.
  pub holds_moved : {f : Front} {memory' line : List ℕ} {given i : ℕ} {c : Place} {p : Machine.Place} → Fits f → f.given ≡ given → ring f.line f.head f.waiting ≡ line → i < desk_places
      → ((k : ℕ) → k < desk_places → (k ≡ i → ⊥) → PlaceIs (bytes_at memory' k (place_in d k).size) (place_in d k) (place_at state k))
      → PlaceIs (bytes_at memory' i c.size) c p
      → Holds (desk_of f (set d.places i c)) memory' (record { given = given; line = line; places = set state.places i p })
  holds_moved {f} {memory'} {line} {given} {i} {c} {p} fits g l inside others new = record {
    fits = fits;
    size = length-set d.places i c ∙ h.size;
    given_is = g;
    line_is = l;
    places_size = length-set state.places i p ∙ h.places_size;
    places = λ k b. at k b (ℕ_discrete k i);
  }
    where
      at : (k : ℕ) → k < desk_places → Dec (k ≡ i) → PlaceIs (bytes_at memory' k (get_or (set d.places i c) k no_place).size) (get_or (set d.places i c) k no_place) (get_or (set state.places i p) k Machine.empty)
      at k b (yes z) = rw (z, get_or-set_same d.places i c no_place (omega (arith, h.size)), get_or-set_same state.places i p Machine.empty (omega (arith, h.places_size))) new
      at k b (no n) = rw (get_or-set_other d.places i k c no_place n, get_or-set_other state.places i k p Machine.empty n) (others k b n)

  -- ---- looking

  ticket_at : (i : ℕ) → i < desk_places → ticket_of (place_at state i) ≡ (place_in d i).ticket
  ticket_at i b = place_ticket (h.places i b)

  -- The first free place is the machine's first empty one,
  pub first_empty : {r : ℕ} → FirstWith d 0 r → FirstEmpty state r
  first_empty {r} f = record {
    inside = f.inside;
    is_empty = place_empty (h.places r f.inside) f.here;
    before = λ k l e. f.before k l (let b = f.inside in sym (ticket_at k (omega arith)) ∙ rw e (empty_ticket));
  }

  -- and where there is none, all are held.
  pub held_sixteen : NoneWith d 0 → held state.places ≡ desk_places
  held_sixteen f = held_all state.places (λ i b e. f i (omega (arith, h.places_size)) (sym (ticket_at i (omega (arith, h.places_size))) ∙ e)) ∙ h.places_size

  pub held_fewer : {r : ℕ} → FirstWith d 0 r → held state.places < desk_places
  held_fewer {r} f = let less = held_less state.places r (omega (arith, f.inside, h.places_size)) (ticket_at r f.inside ∙ f.here) in omega (arith, h.places_size)
