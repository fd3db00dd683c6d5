-- A step, as the machine's transition: the head's next trial.
use Prim.Native.Nat.{ℕ, suc, ◌+◌, ◌-◌, ◌%◌, ◌≤◌, ◌<◌}
use mathlib.Core.Path.{◌≡◌, refl, sym, ap, subst, ◌∙◌}
use mathlib.Core.List.{List, ◌∷◌}
use native.Mathlib.Omega.{arith}
use native.Mathlib.Numerals.{add-one}
use lib.ListN.{length, set, length-set}
use lib.Seq.{get_or-set_same}
use Rattle.std.specs.Prelude.{true, false, Some, None, Ok, Err}
use Rattle.definitions.specs.Limits.{desk_places, desk_memory}
use Rattle.definitions.specs.ProblemRecord.{problem_of, meant}
use Rattle.definitions.specs.Desk as Machine
use Rattle.definitions.specs.Desk.{Stands, Steps, one_more, last_one}
use Rattle.records.specs.declared.refusal.Refusal.TheVariants.{Memory}
use Rattle.engine.specs.OneTrial.{TrialFor}
use Rattle.engine.specs.Outcome.{Gives}
use Rattle.desk.specs.declared.state.Front.{Front}
use Rattle.desk.specs.declared.state.Place.{Place}
use Rattle.desk.specs.State.{desk_of, Fits, front_joined, front_gone, no_place, head_of, ring, bytes_at, Seated, PlaceIs, is_waiting, is_answered, Tryable, Tried}
use Rattle.desk.specs.Calls.{Left, HeadTried, DidStep, AtHead, CanStep, StepAt}
use Rattle.tickets.proofs.Sound.{classed, from_opening_sound}
use Rattle.desk.proofs.Ring.{ring_join}
use Rattle.desk.proofs.Holding.{none_wait, line_head, HeadAs, head_as, WaitsAs, others_stay, holds_moved}
use Rattle.desk.proofs.Taking.{memory_enough}

-- ---- nothing to do

module _ {f : Front} {c : Place} {memory : List ℕ} where
  pub stepped_short : length memory < desk_memory → StepAt f c memory (Err Memory)
  stepped_short h = record { short = λ _. refl; moves = λ l. absurd (omega arith) }

  pub stepped_idle : desk_memory ≤ length memory → f.waiting ≡ 0 → StepAt f c memory (Ok None)
  unfolding DidStep
  stepped_idle h e = record { short = λ l. absurd (omega arith); moves = λ _ left here. Steps.idle (memory_enough (length memory) h) (none_wait left.holds e) }

-- ---- the head

pub gone_fits : {f rest : Front} → Fits f → (f.waiting ≡ 0 → ⊥) → rest ≡ front_gone f → Fits rest × (rest.waiting < desk_places)
gone_fits a n e = rw e (record { line_size = a.line_size; head_inside = omega arith; few = omega (arith, a.few) }, omega (arith, a.few))

module _ (f : Front) (c : Place) (memory : List ℕ) (enough : desk_memory ≤ length memory) (some : f.waiting ≡ 0 → ⊥) where
  abbrev at : ℕ
  at = head_of f

  module _ {places : List Place} (left : Left (desk_of f places) memory) (here : AtHead f places c) where
    head : HeadAs left.holds at
    head = head_as left.holds (from_opening_sound left.from_opening) (omega arith)

    waits_as : WaitsAs (bytes_at memory at c.size) c (Machine.place_at left.state at)
    waits_as = subst (λ (z : Place). WaitsAs (bytes_at memory at z.size) z (Machine.place_at left.state at)) (here head.inside) head.waits_as

  module _ (can : CanStep f c memory) where
    pub head_fits : Fits f
    head_fits = (can.left enough).holds.fits

    pub head_tryable : Tryable memory (head_of f) c
    head_tryable =
        let left = can.left enough in
        let w = waits_as left can.here in
        record { inside = (head left can.here).inside; memory_enough = enough; size_most = w.seated.size_most; pending = w.pending }

  -- ---- its trial

  module _ {rest : Front} (r : Place) (tried : Tried (bytes_at memory (head_of f) c.size) c r) (gone : rest ≡ front_gone f) where
    abbrev bytes : List ℕ
    bytes = bytes_at memory at r.size

    module _ {places : List Place} (left : Left (desk_of f places) memory) (here : AtHead f places c) where
      abbrev state : Machine.Desk
      state = left.state

      same_size : bytes_at memory at c.size ≡ bytes
      same_size = ap (λ (z : ℕ). bytes_at memory at z) (sym tried.size_is)

      trial : TrialFor (meant bytes) c.pending r.pending
      trial = subst (λ (z : List ℕ). TrialFor (meant z) c.pending r.pending) same_size tried.trial

      stands : Stands state at (Machine.waits r.ticket (meant bytes) c.pending.search.made)
      stands = record { is = rw (tried.ticket_is, ← same_size) (waits_as left here).is }

      seated : Seated r
      seated = let s = (waits_as left here).seated in record { some = omega (arith, tried.ticket_is, s.some); size_most = omega (arith, tried.size_is, s.size_most) }

      -- The head's place was tried.
      head_tried : {next : Front} {line : List ℕ} {p : Machine.Place} {outcome : Machine.Stepped} → Fits next → next.given ≡ state.given → ring next.line next.head next.waiting ≡ line → PlaceIs bytes r p
          → Steps Gives (length memory) state outcome (record { given = state.given; line = line; places = set state.places at p })
          → HeadTried (desk_of f places) memory state outcome (desk_of next (set places at r))
      head_tried fits given line new steps =
          let same = get_or-set_same places at r no_place (omega (arith, (head left here).inside, left.holds.size)) in
          record {
            inside = (head left here).inside;
            trial = rw (same, here (head left here).inside) tried;
            others = others_stay _ _ _;
            next = _;
            steps = steps;
            holds = holds_moved left.holds fits given line (head left here).inside (λ k l n. left.holds.places k l) new;
          }

      line_is : state.line ≡ at ∷ ring f.line ((f.head + 1) % 16) (f.waiting - 1)
      line_is = line_head left.holds (omega arith)

    -- It is answered,
    pub stepped_done : {ticket : ℕ} → ticket ≡ r.ticket → (r.pending.search.class ≡ None → ⊥) → StepAt f c memory (Ok (Some (record { ticket = ticket; done = true; front = rest; place = r })))
    unfolding DidStep
    stepped_done told e = rw (told, gone) (record {
      short = λ l. absurd (omega arith);
      moves = λ _ left here.
          let s = (trial left here).ends e in
          let last : suc c.pending.search.made ≡ r.pending.search.made = omega (arith, s.1) in
          head_tried left here (gone_fits left.holds.fits some refl).0 left.holds.given_is refl (is_answered (seated left here) s.0)
          (last_one (memory_enough (length memory) enough) (line_is left here) (stands left here) last s.0.answers s.0.gives);
    })

    -- or goes on, at the end of the line.
    pub stepped_on : {next : Front} {ticket : ℕ} → ticket ≡ r.ticket → next ≡ front_joined rest (head_of f) → r.pending.search.class ≡ None → StepAt f c memory (Ok (Some (record { ticket = ticket; done = false; front = next; place = r })))
    unfolding DidStep
    stepped_on told j e = rw (told, j, gone) (record {
      short = λ l. absurd (omega arith);
      moves = λ _ left here.
          let g = (trial left here).goes_on e in
          let made : r.pending.search.made ≡ suc c.pending.search.made = g.made_is ∙ add-one c.pending.search.made in
          let k = classed (problem_of (meant bytes)) in
          let more : suc c.pending.search.made < k.trials = omega (arith, g.more k.class k.trials k.span k.found) in
          let fits = gone_fits left.holds.fits some refl in
          head_tried left here
          (record { line_size = length-set f.line (((f.head + 1) % 16 + (f.waiting - 1)) % 16) at ∙ left.holds.fits.line_size; head_inside = fits.0.head_inside; few = omega (arith, fits.1) })
          left.holds.given_is
          (ring_join f.line ((f.head + 1) % 16) (f.waiting - 1) at left.holds.fits.line_size fits.1)
          (rw (← made) (is_waiting (seated left here) g.pending))
          (one_more (memory_enough (length memory) enough) (line_is left here) (stands left here) k.found more);
    })
