-- Every sequence of calls: no problem waits longer than 16 steps for each trial that it takes. Its due falls by one at each step and rises at
-- no call: its place in the line, and 16 for each trial of its own that comes after the next one.
use Prim.Native.Nat.{ℕ, suc, ◌+◌, ◌*◌, ◌-◌, ◌≤◌, ◌<◌}
use mathlib.Core.Path.{◌≡◌, sym, ap, subst, ◌∙◌}
use mathlib.Core.List.{List, [], ◌∷◌, ◌++◌}
use native.Mathlib.Omega.{arith}
use native.Mathlib.Decide.{ℕ_discrete}
use lib.ListN.{length}
use Rattle.definitions.specs.Limits.{desk_places}
use Rattle.definitions.specs.Tropical.{Trop}
use Rattle.definitions.specs.ProblemRecord.{problem_of, meant}
use Rattle.definitions.specs.Solved.{Found, Giving}
use Rattle.definitions.specs.Bytes.{first, or_else}
use Rattle.definitions.specs.Desk.{memory_refused, full_refused, desk_refusal, Place, empty, waits, answered, Desk, place_at, Stands, ticket_of, TakenIn, TakesIn, taken, take_refusal, Stepped, Steps, one_more, last_one, Collected, Collects, handed_over, Run, nothing, take_in, one_step_is, collect, FromOpening}
use Rattle.definitions.specs.Desk as Desks
use Rattle.definitions.proofs.Refusals.{or_else_none}
use Rattle.duality.proofs.Classes.{found_one}
use Rattle.tickets.proofs.Line.{At, at_kept, at_end, at_next}
use Rattle.tickets.proofs.Sound.{Sound, found_some, empty_not_waits, empty_not_answered, answered_not_waits, beyond_empty, line_few, same_number, same_own, waiting_inside, moved, here, elsewhere, sound_taken, from_opening_sound}
use Rattle.tickets.proofs.Tickets.{sound_still, waits_mine}

-- How many steps may still pass before a problem is answered: its place in the line, the next trial of its own, and 16 for each that may
-- follow; with the steps that have passed, at most `most`.
record Due (d : Desk) (number trials passed most : ℕ) : Type 0 where
  due : {i own : ℕ} {problem : List ℕ} → Stands d i (waits number problem own) → (q : ℕ) × At d.line i q × (q + 1 + desk_places * (trials - 1 - own) + passed ≤ most)
  given : number ≤ d.given

-- What waits with the ticket takes so many trials.
record Asks (d : Desk) (number trials : ℕ) : Type 0 where
  asked : {i own class made : ℕ} {span : Trop} {problem : List ℕ} → Stands d i (waits number problem own) → Found (problem_of problem) class span made → made ≡ trials

module _ {memory : ℕ} {d : Desk} {number trials passed most : ℕ} (s : Sound d) (owed : Due d number trials passed most) where
  due_taken : {p : List ℕ} {e : Desk} {r : TakenIn} → TakesIn memory d p r e → Due e number trials passed most
  due_taken (Desks.TakesIn.turned_away h) = owed
  due_taken {p = p} (taken {i = i} h f) = record { due = λ {i = j} {own = own} {problem = problem} st. at j st (ℕ_discrete j i); given = let g = owed.given in omega arith }
    where
      at : (j : ℕ) {own : ℕ} {problem : List ℕ} → Stands (moved d (suc d.given) (d.line ++ (i ∷ [])) i (waits (suc d.given) (meant p) 0)) j (waits number problem own) → Dec (j ≡ i)
          → (q : ℕ) × At (d.line ++ (i ∷ [])) j q × (q + 1 + desk_places * (trials - 1 - own) + passed ≤ most)
      at j st (yes e) =
          let new : suc d.given ≡ number = same_number (sym (here d (suc d.given) (d.line ++ (i ∷ [])) i _ s.sixteen f.inside) ∙ ap (λ (z : ℕ). place_at (moved d (suc d.given) (d.line ++ (i ∷ [])) i (waits (suc d.given) (meant p) 0)) z) (sym e) ∙ st.is) in
          let g : number ≤ d.given = owed.given in
          absurd (omega arith)
      at j st (no n) =
          let o = owed.due (record { is = sym (elsewhere d (suc d.given) (d.line ++ (i ∷ [])) i (waits (suc d.given) (meant p) 0) j n) ∙ st.is }) in
          (o.0, at_kept i o.1, o.2)

  due_stepped : {Gives : Giving} {e : Desk} {r : Stepped} → Asks d number trials → first (memory_refused memory ∷ []) ≡ 0 → Steps Gives memory d r e → Due e number trials (suc passed) most
  due_stepped asks enough (Desks.Steps.turned_away h) = absurd (omega arith)
  due_stepped asks enough (Desks.Steps.idle h none) = record {
    due = λ {i = j} st. let o = owed.due st in let inside : o.0 < length d.line = o.1.inside in absurd (omega (arith, ap (λ (l : List ℕ). length l) none));
    given = owed.given;
  }
  due_stepped asks enough (one_more {i = i} {number = n} {own = own} {problem = problem} {rest = rest} h head st found more) = record { due = λ {i = j} {own = o} {problem = p} t. at j t (ℕ_discrete j i); given = owed.given }
    where
      at : (j : ℕ) {o : ℕ} {p : List ℕ} → Stands (moved d d.given (rest ++ (i ∷ [])) i (waits n problem (suc own))) j (waits number p o) → Dec (j ≡ i)
          → (q : ℕ) × At (rest ++ (i ∷ [])) j q × (q + 1 + desk_places * (trials - 1 - o) + suc passed ≤ most)
      at j {o} t (yes e) =
          let inside : i < desk_places = waiting_inside s.sixteen (record { number = n; problem = problem; own = own; there = st }) in
          let now = sym (here d d.given (rest ++ (i ∷ [])) i _ s.sixteen inside) ∙ ap (λ (z : ℕ). place_at (moved d d.given (rest ++ (i ∷ [])) i (waits n problem (suc own))) z) (sym e) ∙ t.is in
          let same : suc own ≡ o = same_own now in
          let mine : n ≡ number = same_number now in
          let before = owed.due (record { is = st.is ∙ ap (λ (z : ℕ). waits z problem own) mine }) in
          let due-trials = asks.asked (record { is = st.is ∙ ap (λ (z : ℕ). waits z problem own) mine }) found in
          let short : length d.line ≤ desk_places = line_few s in
          let long : length d.line ≡ suc (length rest) = ap (λ (l : List ℕ). length l) head in
          (length rest, subst (λ (z : ℕ). At (rest ++ (i ∷ [])) z (length rest)) (sym e) (at_end rest i), omega (arith, before.2))
      at j t (no k) =
          let before = owed.due (record { is = sym (elsewhere d d.given (rest ++ (i ∷ [])) i (waits n problem (suc own)) j k) ∙ t.is }) in
          let next = at_next k (subst (λ (l : List ℕ). At l j before.0) head before.1) in
          (next.0, at_kept i next.2, omega (arith, before.2, next.1))
  due_stepped asks enough (last_one {i = i} {number = n} {own = own} {class = class} {trials = made} {span = span} {problem = problem} {rest = rest} {a = a} h head st last ans gave) = record { due = λ {i = j} {own = o} {problem = p} t. at j t (ℕ_discrete j i); given = owed.given }
    where
      at : (j : ℕ) {o : ℕ} {p : List ℕ} → Stands (moved d d.given rest i (answered n problem class span made a)) j (waits number p o) → Dec (j ≡ i)
          → (q : ℕ) × At rest j q × (q + 1 + desk_places * (trials - 1 - o) + suc passed ≤ most)
      at j t (yes e) =
          let inside : i < desk_places = waiting_inside s.sixteen (record { number = n; problem = problem; own = own; there = st }) in
          absurd (answered_not_waits (sym (here d d.given rest i _ s.sixteen inside) ∙ ap (λ (z : ℕ). place_at (moved d d.given rest i (answered n problem class span made a)) z) (sym e) ∙ t.is))
      at j t (no k) =
          let before = owed.due (record { is = sym (elsewhere d d.given rest i (answered n problem class span made a) j k) ∙ t.is }) in
          let next = at_next k (subst (λ (l : List ℕ). At l j before.0) head before.1) in
          (next.0, next.2, omega (arith, before.2, next.1))

  due_collected : {e : Desk} {t : ℕ} {before after : List ℕ} {r : Collected} → Collects memory d t before r e after → Due e number trials passed most
  due_collected (Desks.Collects.turned_away h) = owed
  due_collected (Desks.Collects.no_such_ticket h n) = owed
  due_collected (Desks.Collects.waits_yet h st) = owed
  due_collected (Desks.Collects.short_buffer h st b) = owed
  due_collected (handed_over {i = i} h st b) = record { due = λ {i = j} {own = o} {problem = p} t. at j t (ℕ_discrete j i); given = owed.given }
    where
      at : (j : ℕ) {o : ℕ} {p : List ℕ} → Stands (moved d d.given d.line i empty) j (waits number p o) → Dec (j ≡ i)
          → (q : ℕ) × At d.line j q × (q + 1 + desk_places * (trials - 1 - o) + passed ≤ most)
      at j t (yes e) =
          let inside : i < desk_places = beyond_empty d i s.sixteen (λ z. empty_not_answered (sym z ∙ st.is)) in
          absurd (empty_not_waits (sym (here d d.given d.line i _ s.sixteen inside) ∙ ap (λ (z : ℕ). place_at (moved d d.given d.line i empty) z) (sym e) ∙ t.is))
      at j t (no k) = owed.due (record { is = sym (elsewhere d d.given d.line i empty j k) ∙ t.is })

-- A problem that was taken in is at most at place 15 of the line, and has no trial of its own yet.
due_at_first : {memory number trials : ℕ} {d e : Desk} {p : List ℕ} → Sound d → 0 < trials → TakesIn memory d p (Desks.ticket number) e → Due e number trials 0 (desk_places * trials)
unfolding ticket_of
due_at_first {memory} {trials = trials} {d = d} {p = p} s some (taken {i = i} h f) = record { due = λ {i = j} {own = o} {problem = q} t. at j t (ℕ_discrete j i); given = omega arith }
  where
    next : Desk
    next = moved d (suc d.given) (d.line ++ (i ∷ [])) i (waits (suc d.given) (meant p) 0)

    at : (j : ℕ) {o : ℕ} {q : List ℕ} → Stands (moved d (suc d.given) (d.line ++ (i ∷ [])) i (waits (suc d.given) (meant p) 0)) j (waits (suc d.given) q o) → Dec (j ≡ i)
        → (q : ℕ) × At (d.line ++ (i ∷ [])) j q × (q + 1 + desk_places * (trials - 1 - o) + 0 ≤ desk_places * trials)
    at j {o} t (yes e) =
        let own : 0 ≡ o = same_own (sym (here d (suc d.given) (d.line ++ (i ∷ [])) i _ s.sixteen f.inside) ∙ ap (λ (z : ℕ). place_at (moved d (suc d.given) (d.line ++ (i ∷ [])) i (waits (suc d.given) (meant p) 0)) z) (sym e) ∙ t.is) in
        let few : length (d.line ++ (i ∷ [])) ≤ desk_places = line_few (sound_taken s (taken h f)) in
        let place = at_end d.line i in
        (length d.line, subst (λ (z : ℕ). At (d.line ++ (i ∷ [])) z (length d.line)) (sym e) place, omega (arith, place.inside))
    at j t (no n) =
        let old = sym (elsewhere d (suc d.given) (d.line ++ (i ∷ [])) i (waits (suc d.given) (meant p) 0) j n) ∙ t.is in
        let high : suc d.given ≤ d.given = subst (λ (z : Place). ticket_of z ≤ d.given) old (s.tickets j) in
        absurd (omega arith)

-- A taking-in with a ticket had memory enough.
taken_enough : {memory number : ℕ} {d e : Desk} {p : List ℕ} → TakesIn memory d p (Desks.ticket number) e → first (memory_refused memory ∷ []) ≡ 0
unfolding take_refusal
taken_enough {memory} {d = d} {p = p} (taken h f) = ((or_else_none (first (memory_refused memory ∷ [])) (or_else (desk_refusal (meant p)) (first (full_refused d)))).0 h).0

-- Over a run: as long as the ticket waits, its due with the steps passed stays within what it was.
due_run : {Gives : Giving} {memory : ℕ} {d e f : Desk} {p : List ℕ} {number k class trials : ℕ} {span : Trop} → FromOpening Gives memory d → TakesIn memory d p (Desks.ticket number) e
    → Found (problem_of (meant p)) class span trials → Run Gives memory e k f → Due f number trials k (desk_places * trials)
due_run o t found nothing = due_at_first (from_opening_sound o) (found_some found) t
due_run o t found (take_in run c) = due_taken (sound_still o t run) (due_run o t found run) c
due_run {p = p} o t found (one_step_is run c) =
    due_stepped (sound_still o t run) (due_run o t found run)
    (record { asked = λ {class = c} {made = m} {span = s} st g. (found_one (subst (λ (q : List ℕ). Found (problem_of q) c s m) (waits_mine o t run st) g) found).2 }) (taken_enough t) c
due_run o t found (collect run c) = due_collected (sound_still o t run) (due_run o t found run) c

-- So after 16 steps for each trial that it takes it waits no longer.
pub waits_no_longer : {Gives : Giving} {memory : ℕ} {d e f : Desk} {p : List ℕ} {number k class trials : ℕ} {span : Trop} → FromOpening Gives memory d → TakesIn memory d p (Desks.ticket number) e
    → Found (problem_of (meant p)) class span trials → Run Gives memory e k f → desk_places * trials ≤ k → {i own : ℕ} {problem : List ℕ} → Stands f i (waits number problem own) → ⊥
waits_no_longer o t found run long st = let owed = (due_run o t found run).due st in omega (arith, owed.2)
