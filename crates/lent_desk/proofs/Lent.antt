-- What each call over lent words leaves is what the next one asks for: the premise holds after an opening, and after every call.
use Prim.Native.Nat.{ℕ, suc}
use mathlib.Core.Path.{sym, subst}
use mathlib.Core.List.{List}
use native.Mathlib.Omega.{arith}
use lib.ListN.{length}
use Rattle.definitions.specs.Desk as Machine
use Rattle.definitions.specs.Desk.{FromOpening, Run}
use Rattle.engine.specs.Outcome.{Gives}
use Rattle.desk.specs.State.{Holds}
use Rattle.desk_words.specs.Words.{desk_from}
use Rattle.lent_desk.specs.Entries.{AsLent, OverLent, Moves, OpenedAs, TakenFrom, TakenAs, SteppedFrom, SteppedAs, CollectedFrom, CollectedAs}

-- Memory and words hold a state that calls lead to.
held_lent : {memory words : List ℕ} {state : Machine.Desk} → FromOpening Gives (length memory) state → Holds (desk_from words) memory state → AsLent memory words
held_lent {state = state} o h = record { left = λ _ _. record { state = state; from_opening = o; holds = h } }

-- A call that changes nothing, or moves the machine.
moved_lent : {memory words memory' words' : List ℕ} {Still : ℕ → Type 0} {From : Machine.Desk → Type 0} → AsLent memory words → OverLent memory words Still (Moves memory words From)
    → ((k : ℕ) → Still k → AsLent memory' words') → ((state : Machine.Desk) → FromOpening Gives (length memory) state → From state → AsLent memory' words') → AsLent memory' words'
moved_lent lent (OverLent.short h s) still moved = still _ s
moved_lent lent (OverLent.too_few h f s) still moved = still _ s
moved_lent lent (OverLent.makes h w m) still moved = let l = lent.left w h in moved l.state l.from_opening (m l)

pub opened_lent : {memory words after : List ℕ} {number : ℕ} → OpenedAs memory words number after → AsLent memory after
opened_lent (OverLent.short h s) = record { left = λ w l. absurd (omega arith) }
opened_lent (OverLent.too_few h f s) = rw s.1 (record { left = λ w l. absurd (omega arith) })
opened_lent (OverLent.makes h w m) = held_lent (record { steps = 0; run = Run.nothing }) m.2

module _ {memory words : List ℕ} (lent : AsLent memory words) where
  taken_next : {p memory' after : List ℕ} {number : ℕ} {state : Machine.Desk} → FromOpening Gives (length memory) state → TakenFrom memory words p state number memory' after → AsLent memory' after
  taken_next o (TakenFrom.refused t) = lent
  taken_next o (TakenFrom.taken t s) = held_lent (subst (λ (n : ℕ). FromOpening Gives n t.next) (sym t.same_length) (record { steps = o.steps; run = Run.take_in o.run t.takes })) t.holds

  pub taken_lent : {p memory' after : List ℕ} {number : ℕ} → TakenAs memory words p number memory' after → AsLent memory' after
  taken_lent t = moved_lent lent t (λ k s. rw (s.1, s.2) lent) (λ state o m. taken_next o m)

  stepped_next : {after : List ℕ} {number : ℕ} {state : Machine.Desk} → FromOpening Gives (length memory) state → SteppedFrom memory words state number after → AsLent memory after
  stepped_next o (SteppedFrom.idle t) = lent
  stepped_next o (SteppedFrom.tried n t s) = held_lent (record { steps = suc o.steps; run = Run.one_step_is o.run t.steps }) t.holds

  pub stepped_lent : {after : List ℕ} {number : ℕ} → SteppedAs memory words number after → AsLent memory after
  stepped_lent t = moved_lent lent t (λ k s. rw s.1 lent) (λ state o m. stepped_next o m)

  collected_next : {buffer after buffer' : List ℕ} {ticket number : ℕ} {state : Machine.Desk} → FromOpening Gives (length memory) state → CollectedFrom memory words ticket buffer state number after buffer' → AsLent memory after
  collected_next o (CollectedFrom.refused t) = lent
  collected_next o (CollectedFrom.still_waits t) = lent
  collected_next o (CollectedFrom.handed t s) = held_lent (record { steps = o.steps; run = Run.collect o.run t.collects }) t.holds

  pub collected_lent : {buffer after buffer' : List ℕ} {ticket number : ℕ} → CollectedAs memory words ticket buffer number after buffer' → AsLent memory after
  collected_lent t = moved_lent lent t (λ k s. rw s.1 lent) (λ state o m. collected_next o m)
