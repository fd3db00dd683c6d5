-- Collecting, as the machine's transition.
use Prim.Native.Nat.{ℕ, ◌*◌, ◌≤◌, ◌<◌}
use mathlib.Core.Path.{◌≡◌, refl, sym, ap, ap₂, subst, ◌∙◌}
use mathlib.Core.Logic.{⊎_elim}
use mathlib.Core.List.{List}
use native.Mathlib.Omega.{arith}
use native.Mathlib.Nat.{eq-zero-or-pos}
use lib.ListN.{length}
use Rattle.std.specs.Prelude.{Option, Some, None, Ok, Err}
use Rattle.definitions.specs.Limits.{desk_memory, problem_most, answer_most}
use Rattle.definitions.specs.Bytes.{Bytes}
use Rattle.definitions.specs.ProblemRecord.{meant}
use Rattle.definitions.specs.AnswerRecord.{answer_size}
use Rattle.definitions.specs.Desk as Machine
use Rattle.definitions.specs.Desk.{place_at, Stands, NotHeld, Collects, handed_over}
use Rattle.definitions.proofs.IdleDay.{meant_bytes}
use Rattle.records.specs.declared.refusal.Refusal.TheVariants.{Memory, Room, Ticket}
use Rattle.records.specs.Classes.{class_number}
use Rattle.engine.specs.declared.solve.Answered.{Answered}
use Rattle.engine.specs.OneTrial.{class_in, IsAnswered, HandedOver}
use Rattle.engine.proofs.Trials.{handed_class}
use Rattle.desk.specs.declared.state.Place.{Place}
use Rattle.desk.specs.State.{Desk, place_in, FirstWith, HoldsTicket, bytes_at, PlaceIs, is_empty}
use Rattle.desk.specs.Calls.{Left, stands_at, DidCollect, CanCollect, CollectedAt}
use Rattle.tickets.proofs.Sound.{beyond_empty}
use Rattle.desk.proofs.Kept.{part_bytes}
use Rattle.desk.proofs.Holding.{place_empty, place_ticket, place_open, AnsweredAs, place_closed, others_stay, holds_moved}
use Rattle.desk.proofs.Taking.{memory_enough}

-- A place that is given stands somewhere,
record StandsAs (d : Desk) (c : Place) (r : Option ℕ) : Type 0 where
  at : ℕ
  at_is : r ≡ Some at
  here : place_in d at ≡ c

stands_somewhere : {d : Desk} {c : Place} (r : Option ℕ) → Some c ≡ stands_at d r → StandsAs d c r
stands_somewhere (Some i) e = record { at = i; at_is = refl; here = cc }
stands_somewhere None e = absurd cc

-- and none stands nowhere.
stands_nowhere : (d : Desk) (r : Option ℕ) → None ≡ stands_at d r → r ≡ None
stands_nowhere d (Some i) e = absurd cc
stands_nowhere d None e = refl

not_held : {d : Desk} {memory : List ℕ} {ticket : ℕ} {r : Option ℕ} (left : Left d memory) → HoldsTicket d ticket r → None ≡ stands_at d r → NotHeld left.state ticket
not_held {d} {ticket = ticket} {r} left t here i some same =
    let inside = beyond_empty left.state i left.holds.places_size some in
    let is = left.holds.places i inside in
    let mine : (place_in d i).ticket ≡ ticket = sym (place_ticket is) ∙ same in
    ⊎_elim
    (λ (z : ticket ≡ 0). some (place_empty is (mine ∙ z)))
    (λ (z : 0 < ticket). t.nowhere (stands_nowhere d r here) z i inside mine)
    (eq-zero-or-pos ticket)

module _ {c : Place} {memory : List ℕ} {d : Desk} {ticket : ℕ} {r : Option ℕ} (left : Left d memory) (found : HoldsTicket d ticket r) (here : Some c ≡ stands_at d r) where
  stands : StandsAs d c r
  stands = stands_somewhere r here

  abbrev at : ℕ
  at = stands.at

  first : FirstWith d ticket at
  first = (found.held at stands.at_is).1

  place_is : PlaceIs (bytes_at memory at c.size) c (place_at left.state at)
  place_is = subst (λ (z : Place). PlaceIs (bytes_at memory at z.size) z (place_at left.state at)) stands.here (left.holds.places at first.inside)

  ticket_is : c.ticket ≡ ticket
  ticket_is = sym (ap (λ (z : Place). z.ticket) stands.here) ∙ first.here

  some : 0 < ticket
  some = (found.held at stands.at_is).0

  waiting : c.pending.search.class ≡ None → Stands left.state at (Machine.waits ticket (meant (bytes_at memory at c.size)) c.pending.search.made)
  waiting e = record { is = place_open place_is ticket_is some e }

  answered : (c.pending.search.class ≡ None → ⊥) → AnsweredAs (bytes_at memory at c.size) c ticket (place_at left.state at)
  answered e = place_closed place_is ticket_is some e

module _ (memory buffer : List ℕ) where
  pub collected_short : {c : Option Place} → length memory < desk_memory → CollectedAt c memory buffer (Err Memory) buffer
  collected_short h = record { short = λ _. (refl, refl); moves = λ l. absurd (omega arith) }

  module _ (h : desk_memory ≤ length memory) where
    -- No place holds the ticket.
    pub collected_none : CollectedAt None memory buffer (Err Ticket) buffer
    unfolding DidCollect
    collected_none = record {
      short = λ l. absurd (omega arith);
      moves = λ _ left found here. (Collects.no_such_ticket (memory_enough (length memory) h) (not_held left found here), refl);
    }

    module _ (c : Place) where
      -- It still waits.
      pub collected_waits : c.pending.search.class ≡ None → CollectedAt (Some c) memory buffer (Ok None) buffer
      unfolding DidCollect
      collected_waits e = record {
        short = λ l. absurd (omega arith);
        moves = λ _ left found here. (Collects.waits_yet {i = (stands left found here).at} (memory_enough (length memory) h) (waiting left found here e), refl);
      }

      module _ (e : c.pending.search.class ≡ None → ⊥) where
        -- The buffer is too short.
        pub collected_room : length buffer < answer_most → CollectedAt (Some c) memory buffer (Err Room) buffer
        unfolding DidCollect
        collected_room b = record {
          short = λ l. absurd (omega arith);
          moves = λ _ left found here. (Collects.short_buffer {i = (stands left found here).at} (memory_enough (length memory) h) (record { is = (answered left found here e).is }) b, refl);
        }

        -- It is answered,
        pub can_answer : Bytes memory → CanCollect (Some c) memory → IsAnswered c.pending
        can_answer b can =
            let left = can.left h in
            let a = answered left can.found can.here e in
            let f = first left can.found can.here in
            let place = (stands left can.found can.here).at in
            record { problem = meant (bytes_at memory place c.size); bytes = meant_bytes _ (part_bytes memory (place * problem_most) c.size b (omega (arith, a.seated.size_most, f.inside))); answered = a.answer }

        -- and handed over.
        pub collected_handed : {buffer' : List ℕ} {r : Answered} → answer_most ≤ length buffer → length buffer' ≡ length buffer → HandedOver c.pending buffer r buffer'
            → CollectedAt (Some c) memory buffer (Ok (Some r)) buffer'
        unfolding DidCollect
        collected_handed {r = r} room same handed = record {
          short = λ l. absurd (omega arith);
          moves = λ _ left found here.
              let w = answered left found here e in
              let a = w.answer in
              let s = stands left found here in
              let f = first left found here in
              let class_is : class_number r.class ≡ class_in c.pending = handed_class handed in (
                s.at,
                s.at_is,
                record {
                  inside = f.inside;
                  found = rw s.at_is at found;
                  same_length = same;
                  others = others_stay _ _ _;
                  next = _;
                  holds = holds_moved left.holds left.holds.fits left.holds.given_is left.holds.line_is f.inside (λ k l d. left.holds.places k l) (is_empty refl);
                  collects = rw (handed.size_is ∙ ap₂ (answer_size (class_number r.class)) a.of.n_is a.of.m_is, class_is, handed.span_is, handed.trials_is, handed.record_stands _ a)
                      (handed_over {i = s.at} (memory_enough (length memory) h) (record { is = w.is }) room);
                },
              );
        }
