-- No call of the desk is stuck: from every state that calls lead to from an opening on, each call has a transition of the machine.
use Prim.Native.Nat.{ℕ, zero, suc, ◌+◌, ◌≤◌, ◌<◌}
use mathlib.Core.Path.{◌≡◌, refl, sym, ap, subst, ◌∙◌}
use mathlib.Core.Bool.{Bool, true, false, cond}
use mathlib.Core.Logic.{◌⊎◌, inl, inr, ⊎_elim}
use mathlib.Core.List.{List, [], ◌∷◌}
use native.Mathlib.Omega.{arith}
use native.Mathlib.Decide.{ℕ_discrete}
use lib.Dec.{leb}
use lib.ListN.{length, get_or}
use borrow.Author.Tests.{ne_eqb, le-leb}
use Rattle.base.proofs.Numbers.{nat_le_or_lt}
use Rattle.definitions.specs.Limits.{desk_places, last_ticket, answer_most, refused_full}
use Rattle.definitions.specs.Tropical.{Trop}
use Rattle.definitions.specs.Bytes.{first, or_else}
use Rattle.definitions.specs.ProblemRecord.{problem_of, meant}
use Rattle.definitions.specs.AnswerRecord.{Answer}
use Rattle.definitions.specs.Solved.{Found, Giving}
use Rattle.definitions.specs.Desk.{memory_refused, full_refused, desk_refusal, Place, empty, waits, answered, Desk, opened, place_at, Stands, ticket_of, held, WithinDesk, TakesIn, taken, take_refusal, Steps, one_more, last_one, NotHeld, Collects, handed_over, FromOpening}
use Rattle.definitions.specs.DeskLaws.{SomeOpening, SomeTaking, SomeStep, SomeCollecting, SomeGiven, NeverStuck}
use Rattle.definitions.specs.Desk as Desks
use Rattle.definitions.proofs.Refusals.{or_else_none}
use Rattle.duality.proofs.Classes.{found_one}
use Rattle.tickets.proofs.Line.{At}
use Rattle.tickets.proofs.Sound.{found_some, Sound, Waiting, empty_not_waits, empty_not_answered, waits_fit, beyond_empty, sound_opened, sixteen_empty, from_opening_sound}
use Rattle.tickets.proofs.Changes.{Becomes, enters, goes_on, closes, frees, Each, each_run}

-- ---- what holds of every place

-- A ticket is not 0, and a problem that waits has made fewer trials than its class and span ask for.
data Going : Place → Type 0 where
  going_empty : Going empty
  going_waits :
      {number own : ℕ} {problem : List ℕ} → 0 < number → ((class trials : ℕ) (span : Trop) → Found (problem_of problem) class span trials → own < trials)
      → Going (waits number problem own)
  going_answered : {number class own : ℕ} {span : Trop} {problem : List ℕ} {a : Answer} → 0 < number → Going (answered number problem class span own a)

of_waits : {number own : ℕ} {problem : List ℕ} → Going (waits number problem own)
    → (0 < number) × ((class trials : ℕ) (span : Trop) → Found (problem_of problem) class span trials → own < trials)
of_waits (going_waits some more) = (some, more)

going_becomes : (given : ℕ) (was p : Place) → 0 ≤ given → Becomes given was p → Going was → Going p
going_becomes given was p l enters g = going_waits {number = suc given} (omega arith) (λ class trials span found. found_some found)
going_becomes given was p l (goes_on {own = own} found more) g = going_waits {own = suc own} (of_waits g).0 (λ class trials span f. let e = found_one found f in omega (arith, e.2))
going_becomes given was p l closes g = going_answered (of_waits g).0
going_becomes given was p l frees g = going_empty

from_opening_going : {memory : ℕ} {d : Desk} {Gives : Giving} → FromOpening Gives memory d → Each Going d
from_opening_going o = each_run 0 (omega arith) going_becomes sound_opened (record { at = λ i. rw (sixteen_empty i) going_empty }) o.run

-- ---- taking in

-- The first empty place of a list.
record EmptyIn (places : List Place) : Type 0 where
  at : ℕ
  inside : at < length places
  is_empty : get_or places at empty ≡ empty
  before : (k : ℕ) → k < at → get_or places k empty ≡ empty → ⊥

behind : {p : Place} {places : List Place} → (p ≡ empty → ⊥) → EmptyIn places → EmptyIn (p ∷ places)
behind {p} {places} n e = record { at = suc e.at; inside = omega (arith, e.inside); is_empty = e.is_empty; before = earlier }
  where
    earlier : (k : ℕ) → k < suc e.at → get_or (p ∷ places) k empty ≡ empty → ⊥
    earlier zero l z = n z
    earlier (suc k) l z = e.before k (omega arith) z

-- The first of a list, or one of the others.
first_in : (p : Place) (places : List Place) → Going p → (held places < length places → EmptyIn places) → held (p ∷ places) < suc (length places) → EmptyIn (p ∷ places)
unfolding held ticket_of
first_in empty places going_empty rest l = record { at = 0; inside = omega arith; is_empty = refl; before = λ k b. absurd (omega arith) }
first_in (waits number problem own) places (going_waits some more) rest l =
    let z : 1 + held places < suc (length places) = rw (ne_eqb number 0 (λ e. omega arith)) at l in
    behind (λ e. empty_not_waits (sym e)) (rest (omega arith))
first_in (answered number problem class span own a) places (going_answered some) rest l =
    let z : 1 + held places < suc (length places) = rw (ne_eqb number 0 (λ e. omega arith)) at l in
    behind (λ e. empty_not_answered (sym e)) (rest (omega arith))

-- Where fewer are held than there are, one is empty.
empty_in : (places : List Place) → ((i : ℕ) → Going (get_or places i empty)) → held places < length places → EmptyIn places
empty_in [] g h = absurd (omega arith)
empty_in (p ∷ places) g h = first_in p places (g 0) (λ l. empty_in places (λ i. g (suc i)) l) h

not_full : (a b : Bool) → cond a refused_full (cond b refused_full 0) ≡ 0 → a ≡ true → ⊥
not_full true b e f = omega arith
not_full false b e f = let z : ◌≡◌ {A = ℕ} 0 1 = ap (λ (c : Bool). cond c 1 0) f in omega arith

-- Nothing refuses it: there is an empty place.
room_left : (memory : ℕ) {d : Desk} (p : List ℕ) → Sound d → Each Going d → take_refusal memory d p ≡ 0 → EmptyIn d.places
unfolding take_refusal
room_left memory {d} p s g h =
    let fit = (or_else_none (desk_refusal (meant p)) (first (full_refused d))).0 ((or_else_none (first (memory_refused memory ∷ [])) (or_else (desk_refusal (meant p)) (first (full_refused d)))).0 h).1 in
    ⊎_elim
    (λ (l : desk_places ≤ held d.places). absurd (not_full (leb desk_places (held d.places)) (leb last_ticket d.given) fit.1 (le-leb desk_places (held d.places) l)))
    (λ (l : held d.places < desk_places). empty_in d.places g.at (omega (arith, s.sixteen)))
    (nat_le_or_lt desk_places (held d.places))

some_taking : {memory : ℕ} {d : Desk} {Gives : Giving} → FromOpening Gives memory d → (p : List ℕ) → SomeTaking memory d p
some_taking {memory} {d} o p = go (take_refusal memory d p) refl
  where
    go : (k : ℕ) → take_refusal memory d p ≡ k → SomeTaking memory d p
    go zero e =
        let s = from_opening_sound o in
        let w = room_left memory p s (from_opening_going o) e in
        record { result = _; next = _; moves = taken {i = w.at} e (record { inside = omega (arith, w.inside, s.sixteen); is_empty = w.is_empty; before = w.before }) }
    go (suc k) e = record { result = _; next = d; moves = TakesIn.turned_away e }

-- ---- a step

-- The next trial of a problem at the head, whose class and span ask for one more at least.
next_step : {memory i number own : ℕ} {d : Desk} {problem rest : List ℕ} {Gives : Giving} → first (memory_refused memory ∷ []) ≡ 0 → d.line ≡ i ∷ rest → Stands d i (waits number problem own)
    → (a : SomeGiven Gives problem) → own < a.trials → SomeStep Gives memory d
next_step {own = own} enough head there a more = ⊎_elim
    (λ (l : a.trials ≤ suc own). record { result = _; next = _; moves = last_one enough head there (omega arith) a.answers a.gives })
    (λ (l : suc own < a.trials). record { result = _; next = _; moves = one_more enough head there a.answers.found l })
    (nat_le_or_lt a.trials (suc own))

module _ {memory : ℕ} {d : Desk} {Gives : Giving} (given : (p : List ℕ) → WithinDesk p → SomeGiven Gives p) (o : FromOpening Gives memory d) where
  head_step : {i : ℕ} {rest : List ℕ} → first (memory_refused memory ∷ []) ≡ 0 → d.line ≡ i ∷ rest → SomeStep Gives memory d
  head_step {i} {rest} enough head =
      let s = from_opening_sound o in
      let at : At d.line i 0 = rw head (record { inside = omega arith; is = refl }) in
      let w : Waiting d i = s.line.wait at in
      let more = (of_waits (subst Going w.there.is ((from_opening_going o).at i))).1 in
      let a : SomeGiven Gives w.problem = given w.problem (waits_fit s w.there).0 in
      next_step enough head w.there a (more a.class a.trials a.span a.answers.found)

  some_step : SomeStep Gives memory d
  some_step = go (first (memory_refused memory ∷ [])) refl
    where
      line : first (memory_refused memory ∷ []) ≡ 0 → (l : List ℕ) → d.line ≡ l → SomeStep Gives memory d
      line enough [] e = record { result = _; next = d; moves = Steps.idle enough e }
      line enough (i ∷ rest) e = head_step enough e

      go : (k : ℕ) → first (memory_refused memory ∷ []) ≡ k → SomeStep Gives memory d
      go zero e = line e d.line refl
      go (suc k) e = record { result = _; next = d; moves = Steps.turned_away e }

-- ---- collecting

-- A place with the ticket.
record Holder (d : Desk) (number : ℕ) : Type 0 where
  place : ℕ
  some : place_at d place ≡ empty → ⊥
  is : ticket_of (place_at d place) ≡ number

-- One of the first n, or none of them.
holder_below : (d : Desk) (number n : ℕ) → Holder d number ⊎ ((i : ℕ) → i < n → (place_at d i ≡ empty → ⊥) → ticket_of (place_at d i) ≡ number → ⊥)
holder_below d number zero = inr (λ i l. absurd (omega arith))
holder_below d number (suc n) = ⊎_elim (λ h. inl h) (λ none. here_or none (place_at d n) refl (ℕ_discrete (ticket_of (place_at d n)) number)) (holder_below d number n)
  where
    below : ((i : ℕ) → i < n → (place_at d i ≡ empty → ⊥) → ticket_of (place_at d i) ≡ number → ⊥) → ((place_at d n ≡ empty → ⊥) → ticket_of (place_at d n) ≡ number → ⊥)
        → (i : ℕ) → i < suc n → (place_at d i ≡ empty → ⊥) → ticket_of (place_at d i) ≡ number → ⊥
    below none last i l some e = ⊎_elim
        (λ (b : n ≤ i). let same : i ≡ n = omega arith in last (subst (λ (z : ℕ). place_at d z ≡ empty → ⊥) same some) (subst (λ (z : ℕ). ticket_of (place_at d z) ≡ number) same e))
        (λ (b : i < n). none i b some e)
        (nat_le_or_lt n i)

    here_or : ((i : ℕ) → i < n → (place_at d i ≡ empty → ⊥) → ticket_of (place_at d i) ≡ number → ⊥) → (p : Place) → place_at d n ≡ p → Dec (ticket_of (place_at d n) ≡ number)
        → Holder d number ⊎ ((i : ℕ) → i < suc n → (place_at d i ≡ empty → ⊥) → ticket_of (place_at d i) ≡ number → ⊥)
    here_or none p e (no k) = inr (below none (λ some is. k is))
    here_or none empty e (yes k) = inr (below none (λ some is. some e))
    here_or none (waits t q own) e (yes k) = inl (record { place = n; some = λ z. empty_not_waits (sym z ∙ e); is = k })
    here_or none (answered t q class span own a) e (yes k) = inl (record { place = n; some = λ z. empty_not_answered (sym z ∙ e); is = k })

module _ {memory : ℕ} {d : Desk} {Gives : Giving} (o : FromOpening Gives memory d) (number : ℕ) (buffer : List ℕ) (enough : first (memory_refused memory ∷ []) ≡ 0) where
  none_held : ((i : ℕ) → i < desk_places → (place_at d i ≡ empty → ⊥) → ticket_of (place_at d i) ≡ number → ⊥) → NotHeld d number
  none_held none i some is = none i (beyond_empty d i (from_opening_sound o).sixteen some) some is

  held_collects : Holder d number → SomeCollecting memory d number buffer
  unfolding ticket_of
  held_collects h = go (place_at d h.place) refl
    where
      go : (p : Place) → place_at d h.place ≡ p → SomeCollecting memory d number buffer
      go empty e = absurd (h.some e)
      go (waits t q own) e =
          let mine : t ≡ number = sym (ap ticket_of e) ∙ h.is in
          record { result = _; next = d; after = buffer; moves = Collects.waits_yet enough (record { is = e ∙ ap (λ (z : ℕ). waits z q own) mine }) }
      go (answered t q class span own a) e =
          let mine : t ≡ number = sym (ap ticket_of e) ∙ h.is in
          let there : Stands d h.place (answered number q class span own a) = record { is = e ∙ ap (λ (z : ℕ). answered z q class span own a) mine } in
          ⊎_elim
          (λ (l : answer_most ≤ length buffer). record { result = _; next = _; after = _; moves = handed_over enough there l })
          (λ (l : length buffer < answer_most). record { result = _; next = d; after = buffer; moves = Collects.short_buffer enough there l })
          (nat_le_or_lt answer_most (length buffer))

  enough_collects : SomeCollecting memory d number buffer
  enough_collects = ⊎_elim held_collects (λ none. record { result = _; next = d; after = buffer; moves = Collects.no_such_ticket enough (none_held none) }) (holder_below d number desk_places)

some_collecting : {memory : ℕ} {d : Desk} {Gives : Giving} → FromOpening Gives memory d → (number : ℕ) (buffer : List ℕ) → SomeCollecting memory d number buffer
some_collecting {memory} {d} o number buffer = go (first (memory_refused memory ∷ [])) refl
  where
    go : (k : ℕ) → first (memory_refused memory ∷ []) ≡ k → SomeCollecting memory d number buffer
    go zero e = enough_collects o number buffer e
    go (suc k) e = record { result = _; next = d; after = buffer; moves = Collects.turned_away e }

-- ---- all calls

some_opening : (memory : ℕ) → SomeOpening memory
some_opening memory = go (first (memory_refused memory ∷ [])) refl
  where
    go : (k : ℕ) → first (memory_refused memory ∷ []) ≡ k → SomeOpening memory
    go zero e = record { result = _; next = opened; moves = Desks.opens e }
    go (suc k) e = record { result = _; next = opened; moves = Desks.Opens.turned_away e }

pub never_stuck : {Gives : Giving} → NeverStuck Gives
never_stuck = record { opening = some_opening; taking_in = some_taking; stepping = some_step; collecting = some_collecting }
