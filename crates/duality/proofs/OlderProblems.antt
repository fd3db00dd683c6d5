-- Problems of an older layout stay (document 02, 2.2), for every older limit of leads: what is within it is within the limit of
-- today, so the refusals are the same; and both pairs of outer trials are enough for such leads, so they decide alike.
use Prim.Native.Nat.{ℕ, ◌≤◌}
use mathlib.Core.Path.{◌≡◌, refl, ◌∙◌}
use mathlib.Core.Bool.{true}
use mathlib.Core.List.{List, [], ◌∷◌}
use mathlib.Core.Logic.{◌↔◌, ⊎_elim}
use native.Mathlib.Omega.{arith}
use lib.ListN.{length}
use lib.IntN.{ℤ, pos, negsuc, nat_abs}
use borrow.Author.Tests.{leb-true, le-leb}
use Rattle.definitions.specs.Limits.{lead_limit, span_limit, top_trial, lowest_trial}
use Rattle.definitions.specs.Tropical.{Trop, bot, fin}
use Rattle.definitions.specs.Bytes.{some_below, num_at, nums_at, signed, trop_field, all, blank_or_within}
use Rattle.definitions.specs.Problem.{Problem, Attainable, Infeasible}
use Rattle.definitions.specs.ProblemRecord.{Kinds, engine_kinds, checker_kinds, state_refused, leads_of, header_refusal, header_judged, refusal_for, WithinLayout, problem_of}
use Rattle.definitions.specs.Questions.{alone}
use Rattle.definitions.specs.Examples.{example_a}
use Rattle.definitions.proofs.Bytes.{all_true}
use Rattle.definitions.proofs.Refusals.{fails_clause, or_else_none, passes_clause}
use Rattle.definitions.proofs.Inputs.{header_none}
use Rattle.definitions.proofs.Questions.{several_passes, leads_alone}
use Rattle.definitions.proofs.Solved.{one_asked}
use Rattle.duality.specs.OlderProblems.{older_lead_limit, LeadsWithin, refusal_before, spans_by, top_by, lowest_by, Stays, OlderStay}
use Rattle.duality.proofs.Classes.{attainable_decided, infeasible_exactly, unbounded_exactly, optimal_range}
use Rattle.duality.proofs.SmallLeads.{leads_within, leads_enough, layout_within, layout_enough}

-- ---- the layout

-- What is within a limit is within a larger one.
within_more : {limit more : ℕ} → limit ≤ more → (x : Trop) → blank_or_within limit x ≡ true → blank_or_within more x ≡ true
unfolding blank_or_within
within_more h bot e = refl
within_more {limit} {more} h (fin z) e = le-leb (nat_abs z) more (omega (arith, leb-true (nat_abs z) limit e))

all_more : {limit more : ℕ} → limit ≤ more → (s : List ℕ) → LeadsWithin limit s → LeadsWithin more s
all_more {limit} {more} h s e =
    (all_true (blank_or_within more) bot (leads_of s)).1 (λ i l. within_more h _ ((all_true (blank_or_within limit) bot (leads_of s)).0 e i l))

-- The refusals are the same.
same_refusal : (limit : ℕ) → limit ≤ lead_limit → (kinds : Kinds) (s : List ℕ) → LeadsWithin limit s → refusal_for kinds s ≡ refusal_before limit kinds s
unfolding refusal_for refusal_before
same_refusal limit h kinds s e = rw (e, all_more h s e)

-- A problem that was within the older layout had its leads within the limit.
leads_before : (limit : ℕ) (kinds : Kinds) (s : List ℕ) → refusal_before limit kinds s ≡ 0 → LeadsWithin limit s
unfolding refusal_before
leads_before limit kinds s e =
    ((passes_clause (all (blank_or_within limit) (leads_of s)) _ _).0 ((fails_clause (state_refused s) _ _).0 ((or_else_none (header_refusal kinds s (length s)) _).0 e).1).1).0

-- ---- the trials

-- Two trials that both decide whether a problem is infeasible say the same.
decide_alike : (p : Problem) (t u : ℤ) → Infeasible p ↔ (Attainable p t → ⊥) → Infeasible p ↔ (Attainable p u → ⊥) → Attainable p t → Attainable p u
decide_alike p t u f g a = ⊎_elim (λ b. b) (λ d. absurd (f.0 (g.1 d) a)) (attainable_decided p u)

stays : (limit : ℕ) (s : List ℕ) → WithinLayout s → LeadsWithin limit s → Stays limit (problem_of s)
stays limit s w e =
    let p = problem_of s in
    let within = leads_within limit s w e in
    let enough = leads_enough limit s w in
    let none = infeasible_exactly p limit (spans_by limit) within enough in
    let none-now = infeasible_exactly p lead_limit span_limit (layout_within s w) (layout_enough s w) in
    let all_of = unbounded_exactly p limit (spans_by limit) within enough in
    let all-now = unbounded_exactly p lead_limit span_limit (layout_within s w) (layout_enough s w) in
    record {
      top = (decide_alike p (top_by limit) top_trial none none-now, decide_alike p top_trial (top_by limit) none-now none);
      lowest = (λ a. all-now.0 (all_of.1 a), λ a. all_of.0 (all-now.1 a));
      none = none;
      bottomless = all_of;
      least = optimal_range p limit (spans_by limit) within enough;
    }

-- ---- the promise

pub older_stay : (limit : ℕ) → limit ≤ lead_limit → OlderStay limit
older_stay limit h = (
  same_refusal limit h,
  λ s e.
      let f = leads_before limit checker_kinds s e in
      let w = same_refusal limit h checker_kinds s f ∙ e in
      (w, stays limit s w f),
  λ s k e q b.
      let f = leads_before limit engine_kinds s e in
      let w = same_refusal limit h engine_kinds s f ∙ e in
      let one = (one_asked s k w q b).within in
      (one, stays limit (alone s q) one (leads_alone (blank_or_within limit) s (several_passes engine_kinds k (header_none engine_kinds s w)) f q b)),
)

-- Document 01's limit.
pub older_problems_stay : OlderStay older_lead_limit
older_problems_stay = older_stay older_lead_limit (omega arith)

-- ---- facts that pin the definitions

-- The limits and the outer trials before, and now.
older_numbers : (top_by older_lead_limit ≡ pos 645120) × (lowest_by older_lead_limit ≡ negsuc 645120) × (spans_by older_lead_limit ≡ 645120) × (spans_by lead_limit ≡ span_limit) × (top_by lead_limit ≡ top_trial) × (lowest_by lead_limit ≡ lowest_trial)
older_numbers = (refl, refl, refl, refl, refl, refl)

-- By the limit of today the refusals are those of the definitions.
refusal_now : (kinds : Kinds) (s : List ℕ) → refusal_before lead_limit kinds s ≡ refusal_for kinds s
unfolding refusal_for refusal_before
refusal_now kinds s = refl

-- Example A was within the older layout, and so were leads of ±10,080. A lead of 10,081 was refused by 6, and is not now.
older_a : refusal_before older_lead_limit checker_kinds example_a.problem ≡ 0
unfolding refusal_before header_refusal header_judged leads_of num_at nums_at all blank_or_within trop_field signed example_a some_below
older_a = refl

lead_bytes : ℕ → List ℕ
lead_bytes low = 14 ∷ 0 ∷ 0 ∷ 0 ∷ 1 ∷ 0 ∷ 0 ∷ 0 ∷ 0 ∷ 0 ∷ low ∷ 39 ∷ 0 ∷ 0 ∷ 160 ∷ 216 ∷ 255 ∷ 255 ∷ []

older_edge : (refusal_before older_lead_limit checker_kinds (lead_bytes 96) ≡ 0) × (refusal_before older_lead_limit checker_kinds (lead_bytes 97) ≡ 6) × (refusal_for checker_kinds (lead_bytes 97) ≡ 0)
unfolding lead_bytes refusal_before refusal_for header_refusal header_judged leads_of num_at nums_at all blank_or_within trop_field signed some_below
older_edge = (refl, refl, refl)
