-- A run of the desk with two problems, the idle day (document 02, 2.9) and example A: facts that pin the machine. Document 02, 2.11.
use Prim.Native.Nat.{ℕ, zero, suc, ◌≤◌, ◌<◌}
use mathlib.Core.Path.{◌≡◌, refl, sym, ap}
use mathlib.Core.List.{List, [], ◌∷◌}
use native.Mathlib.Omega.{arith}
use lib.ListN.{length, get_or, replicate}
use Rattle.definitions.specs.Limits.{desk_memory, answer_most}
use Rattle.definitions.specs.Tropical.{Trop}
use Rattle.definitions.specs.Bisection.{trials_optimal}
use Rattle.definitions.specs.Bytes.{num_at, nums_at, signed, trop_field, all, blank_or_within, some_below}
use Rattle.definitions.specs.ProblemRecord.{problem_of, meant, refusal_for, header_refusal, header_judged, leads_of, list_of, n_field, m_field}
use Rattle.definitions.specs.AnswerRecord.{Answer, answer_size, answer_bytes, written}
use Rattle.definitions.specs.Solved.{Answers, Giving, optimal}
use Rattle.definitions.specs.Examples.{example_a}
use Rattle.definitions.specs.Desk as Desks
use Rattle.definitions.specs.Desk.{WithinDesk, Place, empty, waits, answered, Desk, opened, FirstEmpty, ticket_of, held, Opening, Opens, take_refusal, TakesIn, taken, ticket, Stepped, Steps, one_more, last_one, goes_on, done, Collected, Collects, handed_over, collected, Run, nothing, take_in, one_step_is}
use Rattle.definitions.proofs.IdleDay.{idle_bytes, idle_least}

-- ---- the two problems

-- The first has no bytes, the second 18.
unfoldable pub second : List ℕ
second = example_a.problem

pub first_within : WithinDesk (meant [])
unfolding refusal_for header_refusal header_judged leads_of num_at nums_at all blank_or_within trop_field signed some_below
first_within = rw idle_bytes refl

pub second_within : WithinDesk (meant second)
unfolding second example_a refusal_for header_refusal header_judged leads_of num_at nums_at all blank_or_within trop_field signed some_below
second_within = refl

-- They wait with tickets 1 and 2.
abbrev pub first_waits : ℕ → Place
first_waits own = waits 1 (meant []) own

abbrev pub second_waits : Place
second_waits = waits 2 (meant second) 0

-- A desk with these at its first two places, so many tickets given out, and this line.
abbrev pub desk_with : ℕ → List ℕ → Place → Place → Desk
desk_with given line p q = record { given = given; line = line; places = p ∷ q ∷ replicate 14 empty }

-- ---- taking in

-- "A problem taken in goes to the end of the line": place 0, then place 1.
pub first_in : TakesIn desk_memory opened [] (ticket 1) (desk_with 1 (0 ∷ []) (first_waits 0) empty)
unfolding take_refusal held ticket_of
first_in = taken {i = 0} (rw first_within refl) (record { inside = omega arith; is_empty = refl; before = λ k b. absurd (omega arith) })

not_empty : {number own : ℕ} {problem : List ℕ} → waits number problem own ≡ empty → ⊥
not_empty e = let z : ◌≡◌ {A = ℕ} 0 1 = cc in omega arith

place_held : (places : List Place) (k : ℕ) → k < 1 → get_or (first_waits 0 ∷ places) k empty ≡ empty → ⊥
place_held places zero b e = not_empty e
place_held places (suc k) b e = omega arith

pub second_in_lem : TakesIn desk_memory (desk_with 1 (0 ∷ []) (first_waits 0) empty) second (ticket 2) (desk_with 2 (0 ∷ 1 ∷ []) (first_waits 0) second_waits)
unfolding take_refusal held ticket_of
second_in_lem = taken {i = 1} (rw second_within refl) (record { inside = omega arith; is_empty = refl; before = λ k b e. place_held (replicate 15 empty) k (omega arith) e })

-- ---- steps

-- "And so does one that its trial leaves without an answer": the step tells ticket 1, and the line is place 1, then place 0.
pub first_goes_on : {Gives : Giving} → Steps Gives desk_memory (desk_with 2 (0 ∷ 1 ∷ []) (first_waits 0) second_waits) (goes_on 1) (desk_with 2 (1 ∷ 0 ∷ []) (first_waits 1) second_waits)
unfolding trials_optimal
first_goes_on = one_more {i = 0} {rest = 1 ∷ []} refl refl (record { is = refl }) (optimal idle_least) (omega arith)

-- The run up to here has one step.
pub two_run : {Gives : Giving} → Run Gives desk_memory opened 1 (desk_with 2 (1 ∷ 0 ∷ []) (first_waits 1) second_waits)
two_run = one_step_is (take_in (take_in nothing first_in) second_in_lem) first_goes_on

-- At its last trial it is answered, as the engine gives it, and leaves the line.
pub first_done :
    {class own : ℕ} {span : Trop} {a : Answer} {Gives : Giving} → Answers (problem_of (meant [])) class span (suc own) a → Gives (meant []) a
    → Steps Gives desk_memory (desk_with 2 (0 ∷ 1 ∷ []) (first_waits own) second_waits) (done 1)
    (desk_with 2 (1 ∷ []) (answered 1 (meant []) class span (suc own) a) second_waits)
first_done answers gives = last_one {i = 0} {rest = 1 ∷ []} refl refl (record { is = refl }) refl answers gives

-- ---- "a collected place is usable again"

pub first_collected :
    {class own : ℕ} {span : Trop} {a : Answer} {buffer : List ℕ} → answer_most ≤ length buffer
    → Collects desk_memory (desk_with 2 (1 ∷ []) (answered 1 (meant []) class span own a) second_waits) 1 buffer
    (collected class span own (answer_size class (n_field (meant [])) (m_field (meant [])))) (desk_with 2 (1 ∷ []) empty second_waits)
    (written buffer (answer_bytes (n_field (meant [])) a))
first_collected room = handed_over {i = 0} refl (record { is = refl }) room

-- The next problem gets place 0 again, and goes to the end of the line.
pub place_again : TakesIn desk_memory (desk_with 2 (1 ∷ []) empty second_waits) [] (ticket 3) (desk_with 3 (1 ∷ 0 ∷ []) (waits 3 (meant []) 0) second_waits)
unfolding take_refusal held ticket_of
place_again = taken {i = 0} (rw first_within refl) (record { inside = omega arith; is_empty = refl; before = λ k b. absurd (omega arith) })

-- Place 2 is empty too, but not the first.
pub not_another : FirstEmpty (desk_with 2 (1 ∷ []) empty second_waits) 2 → ⊥
not_another f = f.before 0 (omega arith) refl

-- ---- 23, "looked at first in every call": one byte is missing

pub short_opening : {d : Desk} {r : Opening} → Opens 262303 r d → r ≡ Desks.Opening.refused 23
short_opening (Desks.Opens.turned_away h) = ap (λ (k : ℕ). Desks.Opening.refused k) (sym h)
short_opening (Desks.Opens.opens h) = absurd (omega arith)

-- Also where the problem is refused,
pub short_and_refused : take_refusal 262303 opened (14 ∷ []) ≡ 23
unfolding take_refusal refusal_for header_refusal header_judged
short_and_refused = refl

pub short_taking : (d : Desk) (p : List ℕ) → take_refusal 262303 d p ≡ 23
unfolding take_refusal
short_taking d p = refl

pub short_step : {d e : Desk} {r : Stepped} {Gives : Giving} → Steps Gives 262303 d r e → r ≡ Desks.Stepped.refused 23
short_step (Desks.Steps.turned_away h) = ap (λ (k : ℕ). Desks.Stepped.refused k) (sym h)
short_step (Desks.Steps.idle h l) = absurd (omega arith)
short_step (one_more h l st found more) = absurd (omega arith)
short_step (last_one h l st last answers gives) = absurd (omega arith)

-- and where no such ticket is held.
pub short_collecting : {number : ℕ} {d e : Desk} {before after : List ℕ} {r : Collected} → Collects 262303 d number before r e after → r ≡ Desks.Collected.refused 23
short_collecting (Desks.Collects.turned_away h) = ap (λ (k : ℕ). Desks.Collected.refused k) (sym h)
short_collecting (Desks.Collects.no_such_ticket h n) = absurd (omega arith)
short_collecting (Desks.Collects.waits_yet h st) = absurd (omega arith)
short_collecting (Desks.Collects.short_buffer h st b) = absurd (omega arith)
short_collecting (handed_over h st b) = absurd (omega arith)

-- ---- "the problem's refusals before 21"

-- All sixteen places hold the idle day.
unfoldable pub full : Desk
full = record { given = 16; line = list_of (λ i. i) 16; places = list_of (λ i. waits (suc i) (meant []) 0) 16 }

-- A problem that the desk takes gets 21; one of a single byte gets its own refusal, 1.
pub full_good : TakesIn desk_memory full second (Desks.TakenIn.refused 21) full
unfolding full second example_a list_of take_refusal held ticket_of refusal_for header_refusal header_judged leads_of num_at nums_at all blank_or_within trop_field signed some_below
full_good = Desks.TakesIn.turned_away refl

pub full_refused_lem : TakesIn desk_memory full (14 ∷ []) (Desks.TakenIn.refused 1) full
unfolding full list_of take_refusal held ticket_of refusal_for header_refusal header_judged
full_refused_lem = Desks.TakesIn.turned_away refl
