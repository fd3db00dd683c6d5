-- Wrong programs do not meet the demands: the six of document 01's last section, with the examples that it names in brackets,
-- and some that break what these leave. Each theorem says what the program does and which statement it breaks.
use Prim.Native.Nat.{ℕ, zero, suc, ◌+◌, ◌≤◌, ◌<◌}
use mathlib.Core.Path.{◌≡◌, refl, ap, sym, ◌∙◌}
use mathlib.Core.Bool.{Bool, true, false, cond, ◌||◌, and-eq-true_iff, true≢false, false≢true}
use mathlib.Core.Logic.{⊎_elim}
use mathlib.Core.List.{List, [], ◌∷◌}
use native.Mathlib.Omega.{arith}
use native.Mathlib.Nat.{eq-zero-or-pos}
use lib.Dec.{eqb, leb, ltb}
use lib.Signed.{◌≤ℤ◌}
use borrow.Author.Tests.{ne_eqb, le-ltb, ltb-true, leb-true}
use lib.ListN.{length, get_or, take, replicate, length-take, length-replicate}
use lib.IntN.{ℤ, pos}
use Rattle.definitions.specs.Limits.{class_optimal, class_unbounded, class_infeasible, answer_most, most_trials}
use Rattle.definitions.specs.Tropical.{Trop, bot, fin, plus, larger, largest, Finite, ◌⊑◌}
use Rattle.definitions.specs.Problem.{Point, Feasible, Counts, Value, side, value, minus, minus_infinity, plus_infinity, Optimal, ◌≼◌, lowest, between, highest}
use Rattle.definitions.specs.Problem as Problems
use Rattle.definitions.specs.Bytes.{gives, put, num_at, nums_at, signed, trop_field, trop_at, all, some_below, blank_or_within, whole_within}
use Rattle.definitions.specs.ProblemRecord.{WithinLayout, problem_of, n_field, m_field, header_refusal, header_judged, leads_of, refusal_for}
use Rattle.definitions.specs.AnswerRecord.{Answer, known_class, start_fits, answer_bytes, answer_size, pick_count, highest_pick, written, writer_refusal, writer_judged, answer_refusal, answer_header_refusal, answer_header_judged, answer_of, form_refusal, span_fits, stamps_fit, picks_fit, is_zero, is_blank}
use Rattle.definitions.specs.Certificate.{Strategy, Reachable, start, onward, start_of, AnchorAnd, Leads, RowLeads}
use Rattle.definitions.specs.Verdict.{accepts, point_of, strategy_of}
use Rattle.definitions.specs.Solved.{engine_refusal, answered, Found, optimal, unbounded, infeasible}
use Rattle.definitions.specs.Demands.{Slice, Handed, Engine, Checker, Reader, Writer, Accepts, EngineRefuses, WriterRefuses, EngineSolves, LeastSpans, OwnAnswers, AcceptsExactly, NeverBroken, EngineReadsBack, ReaderRefuses, ReadsFields}
use Rattle.definitions.specs.Examples.{example_a, example_b, example_e, example_m}
use Rattle.definitions.proofs.Bytes.{bytes_tested, bytes_take, bytes_put, zero_bytes}
use Rattle.definitions.proofs.Put.{get_d_put_after}
use Rattle.definitions.proofs.Whole.{whole, eq_read}
use Rattle.definitions.proofs.Tropical.{bot_not_fin, fin_injective, fin_below}
use Rattle.definitions.proofs.Offset.{trop_zero}
use Rattle.definitions.proofs.Values.{infinite_not_below, whole_below}
use Rattle.definitions.proofs.Counts.{whole_counts}
use Rattle.definitions.proofs.AnswerFits.{answer_fits, writer_fits}
use Rattle.definitions.proofs.RoundTrip.{writer_accepts, answer_length, answer_bytes_lem, size_most}
use Rattle.checker.proofs.Answers.{picks_at}
use Rattle.definitions.proofs.Examples.{anchor_only, not_accepted_m}
use Rattle.definitions.proofs.Solved.{answer_takes}
use Rattle.guarantees.proofs.Engine.{found_as, engine_answer}
use Rattle.guarantees.proofs.Records.{read_fields}

-- ---- the examples' bytes, and a buffer of 208 zeros

slice_a : Slice example_a.problem
unfolding example_a all
slice_a = record { bytes = bytes_tested example_a.problem refl; size = omega arith }

within_a : WithinLayout example_a.problem
unfolding example_a refusal_for header_refusal header_judged leads_of num_at nums_at all some_below blank_or_within trop_field signed
within_a = refl

slice_b : Slice example_b.problem
unfolding example_b all
slice_b = record { bytes = bytes_tested example_b.problem refl; size = omega arith }

within_b : WithinLayout example_b.problem
unfolding example_b refusal_for header_refusal header_judged leads_of num_at nums_at all some_below blank_or_within trop_field signed
within_b = refl

slices_m : Slice example_m.problem × Slice example_m.answer
unfolding example_m all
slices_m = (
  record { bytes = bytes_tested example_m.problem refl; size = omega arith },
  record { bytes = bytes_tested example_m.answer refl; size = omega arith },
)

within_m : WithinLayout example_m.problem
unfolding example_m refusal_for header_refusal header_judged leads_of num_at nums_at all some_below blank_or_within trop_field signed
within_m = refl

zeros : List ℕ
zeros = replicate answer_most 0

slice_zeros : Slice zeros
unfolding zeros
slice_zeros = record { bytes = zero_bytes answer_most; size = omega (arith, length-replicate {A = ℕ} answer_most 0) }

long_zeros : answer_most ≤ length zeros
unfolding zeros
long_zeros = omega (arith, length-replicate {A = ℕ} answer_most 0)

-- A's problem has a point of value 3, so it is not infeasible; every point of B has value minus infinity, so it has no
-- least span.
feasible_a : Feasible (problem_of example_a.problem) anchor_only
unfolding problem_of example_a num_at
feasible_a = record { anchored = refl; keeps = λ i h. absurd (omega arith) }

value_a : value (problem_of example_a.problem) anchor_only ≡ Problems.whole (pos 3)
unfolding value minus side largest larger plus problem_of trop_at trop_field num_at signed example_a
value_a = refl

value_b : (x : Point) → value (problem_of example_b.problem) x ≡ minus_infinity
unfolding value minus side largest larger plus problem_of trop_at trop_field num_at signed example_b
value_b x = refl

least_b : (s : ℤ) → Optimal (problem_of example_b.problem) s → ⊥
least_b s o = let e : minus_infinity ≡ Problems.whole s = sym (value_b o.point) ∙ o.value_is in let z : ◌≡◌ {A = ℕ} 0 1 = cc in omega arith

-- The first part of the zeros has 0 as its length field.
zeros_at : (n k i : ℕ) → ◌≡◌ {A = ℕ} (get_or (take k (replicate n 0)) i 0) 0
zeros_at zero zero i = refl
zeros_at zero (suc k) i = refl
zeros_at (suc n) zero i = refl
zeros_at (suc n) (suc k) zero = refl
zeros_at (suc n) (suc k) (suc i) = zeros_at n k i

zero_at : (i : ℕ) → ◌≡◌ {A = ℕ} (get_or zeros i 0) 0
unfolding zeros
zero_at i = go answer_most i
  where
    go : (n i : ℕ) → ◌≡◌ {A = ℕ} (get_or (replicate n 0) i 0) 0
    go zero i = refl
    go (suc n) zero = refl
    go (suc n) (suc i) = go n i

counts_a : (n_field example_a.problem ≤ 31) × (m_field example_a.problem ≤ 63)
unfolding example_a num_at
counts_a = (omega arith, omega arith)

zero_length : (k : ℕ) → num_at 4 (take k zeros) 0 ≡ 0
unfolding num_at zeros
zero_length k = omega (arith, zeros_at answer_most k 0, zeros_at answer_most k (0 + 1), zeros_at answer_most k (0 + 1 + 1), zeros_at answer_most k (0 + 1 + 1 + 1))

form_m : answer_refusal example_m.answer (n_field example_m.problem) (m_field example_m.problem) ≡ 0
unfolding example_m answer_refusal answer_header_refusal answer_header_judged answer_of form_refusal span_fits stamps_fit picks_fit is_zero is_blank num_at nums_at all blank_or_within whole_within trop_field trop_at signed
form_m = refl

-- ---- the wrong programs

-- The engine that says none to every problem, without a trial or with some (demand 2, A).
pub none_to_every_problem : (engine : Engine) (trials size : List ℕ → ℕ)
    → ((p buffer : List ℕ) → WithinLayout p → answer_most ≤ length buffer → engine.result p buffer ≡ answered class_infeasible bot (trials p) (size p))
    → LeastSpans engine → ⊥
unfolding example_a
none_to_every_problem engine trials size always least =
    go (found_as engine _ zeros class_infeasible bot _ _ (least _ zeros slice_a slice_zeros within_a long_zeros) (always _ zeros within_a long_zeros)) refl
  where
    go : {c : ℕ} {s : Trop} {t : ℕ} → Found (problem_of example_a.problem) c s t → c ≡ class_infeasible → ⊥
    go (optimal o) e = omega (arith, e)
    go (unbounded u) e = omega (arith, e)
    go (infeasible n) e = infinite_not_below (rw value_a at (n anchor_only feasible_a (whole_counts value_a)))

-- The engine that calls all least with one fixed span (demand 2).
pub all_least_with_one_span : (engine : Engine) (s : ℤ) (trials size : List ℕ → ℕ)
    → ((p buffer : List ℕ) → WithinLayout p → answer_most ≤ length buffer → engine.result p buffer ≡ answered class_optimal (fin s) (trials p) (size p))
    → LeastSpans engine → ⊥
unfolding example_b
all_least_with_one_span engine s trials size always least =
    go (found_as engine _ zeros class_optimal (fin s) _ _ (least _ zeros slice_b slice_zeros within_b long_zeros) (always _ zeros within_b long_zeros)) refl
  where
    go : {c : ℕ} {x : Trop} {t : ℕ} → Found (problem_of example_b.problem) c x t → c ≡ class_optimal → ⊥
    go (optimal {s = z} o) e = least_b z o
    go (unbounded u) e = omega (arith, e)
    go (infeasible n) e = omega (arith, e)

-- The engine that reports the most trials always, 24 (the count's definition).
pub always_the_most_trials : (engine : Engine) (c : List ℕ → ℕ) (s : List ℕ → Trop) (size : List ℕ → ℕ)
    → ((p buffer : List ℕ) → WithinLayout p → answer_most ≤ length buffer → engine.result p buffer ≡ answered (c p) (s p) most_trials (size p))
    → LeastSpans engine → ⊥
unfolding example_b
always_the_most_trials engine c s size always least =
    go (found_as engine _ zeros _ _ most_trials _ (least _ zeros slice_b slice_zeros within_b long_zeros) (always _ zeros within_b long_zeros)) refl
  where
    go : {k : ℕ} {x : Trop} {t : ℕ} → Found (problem_of example_b.problem) k x t → t ≡ most_trials → ⊥
    go (optimal {s = z} o) e = least_b z o
    go (unbounded u) e = omega (arith, e)
    go (infeasible n) e = omega (arith, e)

-- The engine that leaves the buffer as lent (reading back, demand 2): 208 zeros are no record.
pub buffer_left :
    (engine : Engine) (read : Reader) → ReaderRefuses read → ReadsFields read → ((p buffer : List ℕ) → engine.buffer p buffer ≡ buffer) → EngineReadsBack engine read → ⊥
unfolding num_at example_a
buffer_left engine read refuses reads left back =
    let r = back example_a.problem zeros slice_a slice_zeros within_a long_zeros in
    let part : Slice (take r.size zeros) = record { bytes = bytes_take r.size slice_zeros.bytes; size = omega (arith, slice_zeros.size, length-take r.size zeros) } in
    let e : read.reading (take r.size zeros) _ _ ≡ gives r.answer = rw (left example_a.problem zeros) at r.reads in
    let f = (answer_fits (take r.size zeros) _ _).0 (read_fields read refuses reads (take r.size zeros) part _ _ (omega arith) (omega arith) r.answer e).0 in
    omega (arith, f.size_enough, f.length_is, zero_length r.size)

-- The checker that certifies nothing (demand 3, the engine's own answer).
pub certifies_nothing : (engine : Engine) (check : Checker) → ((p a : List ℕ) → accepts (check p a) ≡ false) → OwnAnswers engine check → ⊥
unfolding accepts example_a
certifies_nothing engine check never own =
    let o = own example_a.problem zeros slice_a slice_zeros within_a long_zeros in
    true≢false (sym (ap accepts o.accepted_is) ∙ never example_a.problem _)

-- The checker that accepts every answer of the right form (demand 3, M).
pub accepts_every_form : (check : Checker) → ((p a : List ℕ) → WithinLayout p → answer_refusal a (n_field p) (m_field p) ≡ 0 → Accepts check p a) → AcceptsExactly check → ⊥
unfolding num_at example_m
accepts_every_form check always exactly =
    not_accepted_m ((exactly example_m.problem example_m.answer slices_m.0 slices_m.1 within_m).0 (always example_m.problem example_m.answer within_m form_m)).1

-- The engine that leaves a pick which plays no part: every pick that it writes is a row or a variable. Of class 2 (B: the question
-- has a blank first list), and of class 1 (A with a moment that no list has).
abbrev FillsPicks : Engine → Type 0
FillsPicks engine =
    (p buffer : List ℕ) (a : Answer) → engine.buffer p buffer ≡ written buffer (answer_bytes (n_field p) a) → (j : ℕ) → j < length a.picks → 0 < get_or a.picks j 0

picks_some : (class n m : ℕ) → known_class class ≡ true → 0 < pick_count class n m
picks_some class n m k = go (eqb class class_optimal) (eqb class class_unbounded) (eqb class class_infeasible) k
  where
    go : (r s t : Bool) → (r || (s || t)) ≡ true → 0 < cond r (suc n) (cond s (suc m) (cond t (suc n) 0))
    go true s t e = omega arith
    go false true t e = omega arith
    go false false true e = omega arith
    go false false false e = absurd (false≢true e)

-- A class that is not bottomless has a pick a moment, and its picks are rows.
picks_rows : (class n m : ℕ) → known_class class ≡ true → (class ≡ class_unbounded → ⊥) → (pick_count class n m ≡ suc n) × (highest_pick class n m ≡ suc m)
picks_rows class n m k d = go (eqb class class_optimal) (eqb class class_unbounded) (eqb class class_infeasible) (ne_eqb class class_unbounded d) k
  where
    go : (r s t : Bool) → s ≡ false → (r || (s || t)) ≡ true
        → (cond r (suc n) (cond s (suc m) (cond t (suc n) 0)) ≡ suc n) × (cond r (suc m) (cond s (suc n) (cond t (suc m) 0)) ≡ suc m)
    go true s t z e = (refl, refl)
    go false true t z e = absurd (false≢true (sym z))
    go false false true z e = (refl, refl)
    go false false false z e = absurd (false≢true e)

-- B is bottomless, and its row is in use nowhere.
not_below : {u v : Value} → u ≼ v → u ≡ plus_infinity → v ≡ minus_infinity → ⊥
not_below lowest e f = let z : ◌≡◌ {A = ℕ} 0 1 = cc in omega arith
not_below (between h) e f = let z : ◌≡◌ {A = ℕ} 0 1 = cc in omega arith
not_below highest e f = let z : ◌≡◌ {A = ℕ} 0 1 = cc in omega arith

counts_b : Counts (problem_of example_b.problem) anchor_only
unfolding side largest larger plus problem_of trop_at trop_field num_at signed example_b
counts_b = record { second = record { whole = pos 2; is = refl } }

class_b : {c : ℕ} {s : Trop} {t : ℕ} → Found (problem_of example_b.problem) c s t → c ≡ class_unbounded
unfolding problem_of example_b num_at
class_b (optimal {s = z} o) = absurd (least_b z o)
class_b (unbounded u) = refl
class_b (infeasible n) = absurd (not_below (n anchor_only (record { anchored = refl; keeps = λ i h. absurd (omega arith) }) counts_b) refl (value_b anchor_only))

left_b : (problem_of example_b.problem).left 0 0 ≡ bot
unfolding problem_of trop_at trop_field num_at signed example_b
left_b = refl

rows_b : (problem_of example_b.problem).m ≡ 0
unfolding problem_of example_b num_at
rows_b = refl

unused_b : (picks : Strategy) (j : ℕ) → Reachable (AnchorAnd 0) (RowLeads (problem_of example_b.problem) picks) j → Finite ((problem_of example_b.problem).left 0 j) → ⊥
unused_b picks j r f = bot_not_fin (sym left_b ∙ rw (at_start_lem r) at f.is)
  where
    at_start_lem : {j : ℕ} → Reachable (AnchorAnd 0) (RowLeads (problem_of example_b.problem) picks) j → j ≡ 0
    at_start_lem (start e) = ⊎_elim (λ z. z) (λ z. z) e
    at_start_lem (onward r h) = absurd (let z : h.row ≡ 0 = omega (arith, h.inside, rows_b) in bot_not_fin (sym left_b ∙ rw (z, at_start_lem r) at h.left.is))

-- B's start is 1: of the anchor, its only moment.
start_b : (class begin : ℕ) → class ≡ class_unbounded → start_fits class begin (n_field example_b.problem) ≡ true → begin ≡ 1
unfolding example_b num_at
start_b class begin c e =
    let f = (and-eq-true_iff (ltb 0 begin) (leb begin 1)).0 (rw c at e) in
    omega (arith, ltb-true 0 begin f.0, leb-true begin 1 f.1)

pub idle_row_filled : (engine : Engine) → FillsPicks engine → EngineSolves engine → ⊥
unfolding strategy_of example_b
idle_row_filled engine fills solves =
    let e = engine_answer engine solves example_b.problem zeros slice_b slice_zeros within_b long_zeros in
    let w = answer_takes example_b.problem within_b e.answer e.answers in
    let some = fills example_b.problem zeros e.answer e.buffer_is 0 (rw w.picks_count (picks_some e.answer.class _ _ w.class_known)) in
    let named = start_b e.answer.class e.answer.start (e.answers.class_is ∙ class_b e.answers.found) w.start_fits_is in
    omega (arith, some, e.answers.idle_rows (class_b e.answers.found) 0 named 0 (unused_b (strategy_of e.answer.picks)))

-- A with moment 1 in no list: 5 and blank, 2 and blank.
problem_idle : List ℕ
problem_idle = 22 ∷ 0 ∷ 0 ∷ 0 ∷ 1 ∷ 0 ∷ 1 ∷ 0 ∷ 0 ∷ 0 ∷ 5 ∷ 0 ∷ 0 ∷ 0 ∷ 0 ∷ 0 ∷ 0 ∷ 128 ∷ 2 ∷ 0 ∷ 0 ∷ 0 ∷ 0 ∷ 0 ∷ 0 ∷ 128 ∷ []

slice_idle : Slice problem_idle
unfolding problem_idle all
slice_idle = record { bytes = bytes_tested problem_idle refl; size = omega arith }

within_idle : WithinLayout problem_idle
unfolding problem_idle refusal_for header_refusal header_judged leads_of num_at nums_at all some_below blank_or_within trop_field signed
within_idle = refl

counts_idle : (n_field problem_idle ≡ 1) × (m_field problem_idle ≡ 0)
unfolding problem_idle num_at
counts_idle = (refl, refl)

-- Every plan has span 3, so it is not bottomless; and the question leads to the anchor alone.
value_idle : (y : Point) → Feasible (problem_of problem_idle) y → value (problem_of problem_idle) y ≡ Problems.whole (pos 3)
unfolding value minus side largest larger plus problem_of trop_at trop_field num_at signed problem_idle
value_idle y f = rw f.anchored refl

class_idle : {c : ℕ} {s : Trop} {t : ℕ} → Found (problem_of problem_idle) c s t → c ≡ class_unbounded → ⊥
class_idle (optimal o) e = omega (arith, e)
class_idle (unbounded u) e = let a = u (pos 0) in let h : pos 3 ≤ℤ pos 0 = whole_below (rw (value_idle a.point a.feasible) at a.within) in omega (whole, h)
class_idle (infeasible n) e = omega (arith, e)

rows_idle : (problem_of problem_idle).m ≡ 0
unfolding problem_of problem_idle num_at
rows_idle = refl

right_idle : ((problem_of problem_idle).right 0 1 ≡ bot) × ((problem_of problem_idle).n ≡ 1)
unfolding problem_of trop_at trop_field num_at signed problem_idle
right_idle = (refl, refl)

-- Either start is the anchor.
begins_idle : (begin j : ℕ) → start_of (problem_of problem_idle) begin j → j ≡ 0
unfolding start_of
begins_idle zero j e = e
begins_idle (suc k) j s = ⊎_elim
    (λ (z : j ≡ 0). z)
    (λ (z : 0 < j). let e : j ≡ 1 = omega (arith, s.inside, right_idle.1) in absurd (bot_not_fin (sym right_idle.0 ∙ rw (rows_idle, e) at s.right.is)))
    (eq-zero-or-pos j)

unreached_idle : (picks : Strategy) (begin : ℕ) → picks 0 ≤ 1 → (j : ℕ) → Reachable (start_of (problem_of problem_idle) begin) (Leads (problem_of problem_idle) picks) j → j ≡ 0
unreached_idle picks begin most j (start b) = begins_idle begin j b
unreached_idle picks begin most j (onward r h) =
    let from = unreached_idle picks begin most _ r in
    let row : h.row ≡ 0 = let p : picks 0 ≡ suc h.row = rw from at h.picked in omega arith in
    ⊎_elim
    (λ (z : j ≡ 0). z)
    (λ (z : 0 < j). let e : j ≡ 1 = omega (arith, h.inside, right_idle.1) in absurd (bot_not_fin (sym right_idle.0 ∙ rw (row, e) at h.right.is)))
    (eq-zero-or-pos j)

pub idle_variable_filled : (engine : Engine) → FillsPicks engine → EngineSolves engine → ⊥
unfolding strategy_of problem_of problem_idle
idle_variable_filled engine fills solves =
    let e = engine_answer engine solves problem_idle zeros slice_idle slice_zeros within_idle long_zeros in
    let w = answer_takes problem_idle within_idle e.answer e.answers in
    let other = picks_rows e.answer.class (n_field problem_idle) (m_field problem_idle) w.class_known (λ z. class_idle e.answers.found (sym e.answers.class_is ∙ z)) in
    let count : length e.answer.picks ≡ 2 = w.picks_count ∙ other.0 ∙ rw counts_idle.0 refl in
    let highest : highest_pick e.answer.class (n_field problem_idle) (m_field problem_idle) ≡ 1 = other.1 ∙ rw counts_idle.1 refl in
    let most : get_or e.answer.picks 0 0 ≤ 1 = rw highest at (picks_at _ e.answer.picks w.form.picks_fit_lem 0) in
    let some = fills problem_idle zeros e.answer e.buffer_is 1 (omega arith) in
    let none = e.answers.idle_variables (class_idle e.answers.found) 1
    (λ r. let z = unreached_idle (strategy_of e.answer.picks) e.answer.start most 1 r in omega (arith, z)) in
    omega (arith, some, none)

-- The engine that touches the byte after the record.
pub byte_after_touched : (engine : Engine) (read : Reader) → ReaderRefuses read → ReadsFields read
    → ((p buffer : List ℕ) (class : ℕ) (span : Trop) (trials size : ℕ) → engine.result p buffer ≡ answered class span trials size
    → (size ≡ answer_size class (n_field p) (m_field p)) × (get_or (engine.buffer p buffer) size 0 ≡ 1))
    → EngineReadsBack engine read → ⊥
unfolding written example_a
byte_after_touched engine read refuses reads touches back =
    let p : List ℕ = example_a.problem in
    let r = back example_a.problem zeros slice_a slice_zeros within_a long_zeros in
    let t = touches example_a.problem zeros _ _ _ _ r.result_is in
    let n_most = counts_a.0 in
    let m_most = counts_a.1 in
    let most = size_most r.answer.class (n_field example_a.problem) (m_field example_a.problem) n_most m_most in
    let bytes = rw (← r.written_is) at (bytes_put 0 slice_zeros.bytes (answer_bytes_lem (n_field example_a.problem) r.answer)) in
    let part : Slice (take r.size (engine.buffer example_a.problem zeros)) = record { bytes = bytes_take r.size bytes; size = rw length-take (omega (arith, t.0, most)) } in
    let f = read_fields read refuses reads _ part _ _ (omega arith) (omega arith) r.answer r.reads in
    let fits = rw f.1 at ((writer_fits _ _ _ answer_most).0 (writer_accepts _ _ _ answer_most f.0 (omega arith))) in
    let long : length (answer_bytes (n_field example_a.problem) r.answer) ≡ r.size = answer_length r.answer _ _ answer_most fits ∙ sym t.0 in
    let after : get_or (engine.buffer example_a.problem zeros) r.size 0 ≡ get_or zeros r.size 0 =
    rw r.written_is (get_d_put_after zeros 0 (answer_bytes (n_field example_a.problem) r.answer) (omega arith) r.size (omega arith)) in
    omega (arith, t.1, after, zero_at r.size)

-- The checker that accepts a plan that breaks a rule: E with moment 1 at 29.
unfoldable pub answer_broken : List ℕ
answer_broken = 24 ∷ 0 ∷ 0 ∷ 0 ∷ 4 ∷ 0 ∷ 1 ∷ 0 ∷ 1 ∷ 0 ∷ 29 ∷ 0 ∷ 0 ∷ 0 ∷ 0 ∷ 0 ∷ 0 ∷ 0 ∷ 0 ∷ 0 ∷ 29 ∷ 0 ∷ 0 ∷ 0 ∷ 1 ∷ 0 ∷ 2 ∷ 0 ∷ []

pub broken_plan_accepted : (check : Checker) → Accepts check example_e.problem answer_broken → NeverBroken check → ⊥
unfolding answer_broken example_e problem_of answer_of point_of side largest larger plus trop_at trop_field num_at nums_at signed all
broken_plan_accepted check accepts never =
    let h = never example_e.problem answer_broken (record { bytes = bytes_tested example_e.problem refl; size = omega arith }) (record { bytes = bytes_tested answer_broken refl; size = omega arith }) accepts refl in
    let kept : fin (pos 30) ⊑ fin (pos 29) = h.keeps_rules.keeps 0 (omega arith) in
    omega (whole, fin_below kept)

-- The checker that accepts a plan with another span than its field: E with moment 1 at 31 and the span field 30.
unfoldable pub answer_other : List ℕ
answer_other = 24 ∷ 0 ∷ 0 ∷ 0 ∷ 4 ∷ 0 ∷ 1 ∷ 0 ∷ 1 ∷ 0 ∷ 30 ∷ 0 ∷ 0 ∷ 0 ∷ 0 ∷ 0 ∷ 0 ∷ 0 ∷ 0 ∷ 0 ∷ 31 ∷ 0 ∷ 0 ∷ 0 ∷ 1 ∷ 0 ∷ 2 ∷ 0 ∷ []

pub another_span_accepted : (check : Checker) → Accepts check example_e.problem answer_other → NeverBroken check → ⊥
unfolding answer_other example_e problem_of answer_of point_of value minus side largest larger plus trop_at trop_field num_at nums_at signed all
another_span_accepted check accepts never =
    let h = never example_e.problem answer_other (record { bytes = bytes_tested example_e.problem refl; size = omega arith }) (record { bytes = bytes_tested answer_other refl; size = omega arith }) accepts refl in
    let span : pos 30 ≡ h.s = fin_injective h.span_is in
    let is : Problems.whole (pos 31) ≡ Problems.whole h.s = h.value_is in
    let z : pos 31 ≡ h.s = cc in
    omega (whole, eq_read span, eq_read z)

-- The engine that marks the buffer on a refusal too: one byte is refused by 1.
mark_seen : written zeros (1 ∷ []) ≡ zeros → ⊥
unfolding written put
mark_seen e = let z : ◌≡◌ {A = ℕ} 1 (get_or zeros 0 0) = ap (λ (l : List ℕ). get_or l 0 0) e in omega (arith, z, zero_at 0)

byte_refused : (room : ℕ) → engine_refusal (0 ∷ []) room ≡ 1
unfolding engine_refusal refusal_for header_refusal header_judged num_at
byte_refused room = refl

pub refusal_marked : (engine : Engine) → ((p buffer : List ℕ) → engine.buffer p buffer ≡ written buffer (1 ∷ [])) → EngineRefuses engine → ⊥
unfolding all
refusal_marked engine marks refuses =
    mark_seen (sym (marks (0 ∷ []) zeros) ∙ refuses.untouched (0 ∷ []) zeros (record { bytes = bytes_tested (0 ∷ []) refl; size = omega arith }) slice_zeros 0 (byte_refused (length zeros)))

-- The writer that does: class 0 is refused by 10.
answer_unknown : Answer
answer_unknown = record { class = 0; span = bot; start = 0; stamps = []; picks = [] }

handed_unknown : Handed answer_unknown
unfolding answer_unknown
handed_unknown = record {
  class = omega arith;
  span = record { number = 0; fits = omega arith; means = trop_zero };
  start = omega arith;
  stamps = λ i. record { number = 0; fits = omega arith; means = trop_zero };
  stamps_size = omega arith;
  picks = record { word = λ i. omega arith; size = omega arith };
}

unknown_refused : (room : ℕ) → answer_most ≤ room → writer_refusal answer_unknown 0 0 room ≡ 10
unfolding writer_refusal writer_judged answer_unknown
unknown_refused room h = rw (le-ltb room answer_most h) refl

pub refusal_written : (write : Writer) → ((a : Answer) (n m : ℕ) (buffer : List ℕ) → write.buffer a n m buffer ≡ written buffer (1 ∷ [])) → WriterRefuses write → ⊥
refusal_written write marks refuses =
    mark_seen (sym (marks answer_unknown 0 0 zeros) ∙ refuses.untouched answer_unknown 0 0 zeros handed_unknown (omega arith) (omega arith) slice_zeros 9 (unknown_refused (length zeros) long_zeros))
