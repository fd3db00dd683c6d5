-- The table of starred examples: no problem is refused, each has the coefficients that document 01 says in words; and
-- facts that pin the definitions: the infinities of values, blanks, the later of two, cycles at s − 1.
use Prim.Native.Nat.{ℕ, zero, suc, ◌+◌, ◌≤◌, ◌<◌}
use mathlib.Core.Path.{◌≡◌, refl, sym, ap₂, subst, subst₂, ◌∙◌}
use mathlib.Core.Bool.{cond}
use mathlib.Core.List.{List, [], ◌∷◌, map}
use mathlib.Core.Logic.{inl, inr, ⊎_elim}
use native.Mathlib.Omega.{arith}
use lib.Dec.{eqb}
use lib.IntN.{ℤ, pos, negsuc, ◌+ℤ◌, ◌-ℤ◌}
use lib.Signed.{<ℤ_irrefl}
use Rattle.definitions.specs.Tropical.{bot, fin, blank_least, whole_least, plus, larger, largest}
use Rattle.definitions.specs.Problem.{Problem, Point, Keeps, Feasible, Counts, value, side, minus, minus_infinity, plus_infinity}
use Rattle.definitions.specs.Problem as Problems
use Rattle.definitions.specs.Certificate.{Strategy, Arc, ArcBy, Walk, step, stop, Uses, Distinct, Cycle, Reachable, start, onward, Anchor, start_of, Leads, HasPick, BelowZero, AcceptedInfeasible, raise}
use Rattle.definitions.specs.Bytes.{num_at, nums_at, le, fields, signed, trop_field, field_of, trop_at, all, some_below, blank_or_within, whole_within}
use Rattle.definitions.specs.ProblemRecord.{header_refusal, header_judged, leads_of, problem_of, problem_bytes, header_bytes, row_bytes, rows_bytes, list_of, refusal_for}
use Rattle.definitions.specs.AnswerRecord.{Answer, answer_header_refusal, answer_header_judged, answer_refusal, answer_of, form_refusal, span_fits, stamps_fit, picks_fit, is_zero, is_blank}
use Rattle.definitions.specs.Verdict.{check_refusal, Accepted, optimal, unbounded, infeasible, point_of, strategy_of}
use Rattle.definitions.specs.Examples.{Row, Example, examples, example_a, example_b, example_c, example_d, example_e, example_f, example_g, example_h, example_i, example_j, example_k, example_m}
use Rattle.definitions.specs.Demands.{Fits}
use Rattle.definitions.proofs.Whole.{up, down, whole, eq_read, plus_read}
use Rattle.definitions.proofs.Tropical.{fin_injective, not_finite_bot}

-- The rows of a problem in the table's form.
unfoldable pub rows_of : Problem → List Row
rows_of p = list_of (λ i. record { left = list_of (p.left i) (suc p.n); right = list_of (p.right i) (suc p.n) }) (suc p.m)

-- An example with its words, class and span as its bytes say them.
unfoldable pub as_read : Example → Example
as_read e =
    let p : Problem = problem_of e.problem in
    let a : Answer = answer_of e.answer e.n e.m in
    record { n = p.n; m = p.m; rows = rows_of p; problem = e.problem; answer = e.answer; class = a.class; span = a.span; verdict = e.verdict }

-- No problem and no answer of the table is refused.
pub no_refusals : map (λ e. check_refusal e.problem e.answer) examples ≡ map (λ e. 0) examples
unfolding examples example_a example_b example_c example_d example_e example_f example_g example_h example_i example_j example_k example_m check_refusal refusal_for header_refusal header_judged leads_of num_at nums_at all some_below blank_or_within trop_field signed trop_at answer_refusal answer_header_refusal answer_header_judged answer_of form_refusal span_fits stamps_fit picks_fit is_zero is_blank whole_within
no_refusals = refl

-- The bytes of every problem mean the words, and the bytes of every answer the class and span.
pub words_are_read : map as_read examples ≡ examples
unfolding examples example_a example_b example_c example_d example_e example_f example_g example_h example_i example_j example_k example_m as_read rows_of list_of problem_of answer_of num_at nums_at trop_field signed trop_at
words_are_read = refl

-- Every problem of the table, written again, has the same bytes.
pub written_again : map (λ e. problem_bytes (problem_of e.problem)) examples ≡ map (λ e. e.problem) examples
unfolding examples example_a example_b example_c example_d example_e example_f example_g example_h example_i example_j example_k example_m problem_bytes header_bytes rows_bytes row_bytes list_of problem_of num_at trop_field signed trop_at field_of fields le
written_again = refl

-- ---- values with blanks

-- D's point has value minus infinity, though both lists are blank; C's has plus infinity.
abbrev pub anchor_only : Point
anchor_only j = cond (eqb j 0) (fin (pos 0)) bot

pub both_blank : value (problem_of example_d.problem) anchor_only ≡ minus_infinity
unfolding value minus side largest larger plus problem_of trop_at trop_field num_at signed example_d
both_blank = refl

pub second_blank : value (problem_of example_c.problem) anchor_only ≡ plus_infinity
unfolding value minus side largest larger plus problem_of trop_at trop_field num_at signed example_c
second_blank = refl

-- J's point with both moments blank is feasible, with value minus infinity.
pub blanks_feasible : Feasible (problem_of example_j.problem) anchor_only
unfolding problem_of example_j side largest larger plus trop_at trop_field num_at signed
blanks_feasible = record { anchored = refl; keeps = keeps }
  where
    keeps : (i : ℕ) → i < 1 → Keeps (problem_of example_j.problem) anchor_only i
    keeps zero h = blank_least
    keeps (suc i) h = absurd (omega arith)

pub blanks_value : value (problem_of example_j.problem) anchor_only ≡ minus_infinity
unfolding value minus side largest larger plus problem_of trop_at trop_field num_at signed example_j
blanks_value = refl

-- It does not count, as its second list is blank, and neither does D's; a plan of J with moment 2 in it does.
pub blanks_do_not_count : Counts (problem_of example_j.problem) anchor_only → ⊥
unfolding side largest larger plus problem_of trop_at trop_field num_at signed example_j
blanks_do_not_count c = not_finite_bot c.second

pub no_plan_of_d_counts : (x : Point) → Counts (problem_of example_d.problem) x → ⊥
unfolding side largest larger plus problem_of trop_at trop_field num_at signed example_d
no_plan_of_d_counts x c = not_finite_bot c.second

pub moment_2_counts : Counts (problem_of example_j.problem) (point_of (fin (pos 0) ∷ bot ∷ fin (pos 7) ∷ []))
unfolding side largest larger plus problem_of trop_at trop_field num_at signed point_of example_j
moment_2_counts = record { second = record { whole = pos 7; is = refl } }

-- ---- the later of two

-- I's point (0, 0, 45) is feasible: moment 2 alone carries the rule, though moment 1 is too early for it.
pub later_carries : Feasible (problem_of example_i.problem) (point_of (fin (pos 0) ∷ fin (pos 0) ∷ fin (pos 45) ∷ []))
unfolding problem_of example_i side largest larger plus trop_at trop_field num_at signed point_of
later_carries = record { anchored = refl; keeps = keeps }
  where
    keeps : (i : ℕ) → i < 1 → Keeps (problem_of example_i.problem) (point_of (fin (pos 0) ∷ fin (pos 0) ∷ fin (pos 45) ∷ [])) i
    keeps zero h = whole_least (record { le = tt })
    keeps (suc i) h = absurd (omega arith)

-- ---- a plan that fits

-- E's plan: moment 1 at minute 30.
unfoldable pub plan_e : Point
plan_e = point_of (fin (pos 0) ∷ fin (pos 30) ∷ [])

-- It fits the answer record, keeps the rule, and has span 30.
pub fits_e : Fits 1 (pos 30) plan_e
unfolding plan_e list_of point_of span_fits stamps_fit whole_within is_zero all blank_or_within
fits_e = record { span = refl; stamps = refl }

pub feasible_e : Feasible (problem_of example_e.problem) plan_e
unfolding plan_e problem_of example_e side largest larger plus trop_at trop_field num_at signed point_of
feasible_e = record { anchored = refl; keeps = keeps }
  where
    keeps : (i : ℕ) → i < 1 → Keeps (problem_of example_e.problem) plan_e i
    keeps zero h = whole_least (record { le = tt })
    keeps (suc i) h = absurd (omega arith)

pub value_e : value (problem_of example_e.problem) plan_e ≡ Problems.whole (pos 30)
unfolding plan_e value minus side largest larger plus problem_of trop_at trop_field num_at signed example_e point_of
value_e = refl

-- ---- cycles at s − 1

-- A's only arc, from the anchor to itself by the question, weighs 2 − 5 + (3 − 1) = −1.
problem_a : Problem
problem_a = problem_of example_a.problem

picks_a : Strategy
picks_a = strategy_of (1 ∷ [])

arc_a : (w : ℤ) → ArcBy problem_a (pos 2) 0 0 0 w → w ≡ negsuc 0
unfolding problem_a problem_of example_a trop_at trop_field num_at signed raise
arc_a w c =
    let a-is : pos 5 ≡ c.a = fin_injective c.left_is in
    let b-is : pos 2 ≡ c.b = fin_injective c.right_is in
    c.weighs ∙ ap₂ (λ (b a : ℤ). (b -ℤ a) +ℤ pos 2) (sym b-is) (sym a-is)

arcs_a : (j l : ℕ) (w : ℤ) → Arc problem_a picks_a (pos 2) j l w → w ≡ negsuc 0
unfolding problem_a picks_a problem_of example_a strategy_of num_at
arcs_a zero l w c =
    let r : c.row ≡ 0 = omega (arith, c.picked) in
    let e : l ≡ 0 = omega (arith, c.inside) in
    arc_a w (subst₂ (λ (i k : ℕ). ArcBy problem_a (pos 2) i 0 k w) r e c.by)
arcs_a (suc j) l w c = absurd (omega (arith, c.picked))

walks_a : {j k n : ℕ} {w : ℤ} → Walk (Arc problem_a picks_a (pos 2)) j k n w → up w + n ≤ down w
walks_a stop = omega arith
walks_a (step {j = j} {l = l} {n = n} {w = w} {v = v} c r) = omega (arith, walks_a r, plus_read w v, eq_read (arcs_a j l w c))

reached_a : {j : ℕ} → Reachable Anchor (Leads problem_a picks_a) j → j ≡ 0
unfolding problem_a problem_of example_a num_at
reached_a (start e) = e
reached_a (onward r c) = omega (arith, c.inside)

-- A's answer is accepted.
pub accepted_a : Accepted (problem_of example_a.problem) (answer_of example_a.answer 0 0)
unfolding problem_a picks_a problem_of example_a answer_of trop_at trop_field num_at nums_at signed point_of strategy_of start_of value minus side largest larger plus
accepted_a = optimal refl refl (record {
  feasible = record { anchored = refl; keeps = λ i h. absurd (omega arith) };
  value_is = refl;
  picks_count = λ j r. subst (HasPick problem_a picks_a) (sym (reached_a r)) (record { row = 0; picked = refl; left = record { whole = pos 5; is = refl } });
  below_zero = λ w c. let h : up w + suc c.arcs ≤ down w = walks_a c.walk in omega (whole, h);
})

-- M's is not: its cycle from the anchor to moment 1 by the rule and back by the question weighs −30 + 0 + (31 − 1).
unfoldable pub cycle_m : (t : ℤ) → Cycle Anchor (Leads (problem_of example_m.problem) (strategy_of (1 ∷ 2 ∷ []))) (Arc (problem_of example_m.problem) (strategy_of (1 ∷ 2 ∷ [])) t) (negsuc 29 +ℤ ((pos 0 +ℤ t) +ℤ pos 0))
unfolding problem_of example_m trop_at trop_field num_at signed strategy_of raise Uses Distinct
cycle_m t = record {
  at = 0;
  arcs = 1;
  reachable = start refl;
  walk = step {l = 1} {w = negsuc 29} (record { row = 0; picked = refl; inside = omega arith; by = record { a = pos 30; b = pos 0; left_is = refl; right_is = refl; weighs = refl } })
      (step {l = 0} {w = pos 0 +ℤ t} (record { row = 1; picked = refl; inside = omega arith; by = record { a = pos 0; b = pos 0; left_is = refl; right_is = refl; weighs = refl } }) stop);
  distinct = (⊎_elim (λ e. omega arith) (λ f. f), (λ f. f, tt));
}

pub not_accepted_m : Accepted (problem_of example_m.problem) (answer_of example_m.answer 1 1) → ⊥
unfolding example_m answer_of trop_at trop_field num_at nums_at signed start_of
not_accepted_m (optimal {s = s} c e h) =
    let s-is : pos 31 ≡ s = fin_injective e in
    let b : BelowZero Anchor (problem_of example_m.problem) (strategy_of (1 ∷ 2 ∷ [])) (pos 30) = subst (λ (z : ℤ). BelowZero Anchor (problem_of example_m.problem) (strategy_of (1 ∷ 2 ∷ [])) (z -ℤ pos 1)) (sym s-is) h.below_zero in
    <ℤ_irrefl (b (pos 0) (cycle_m (pos 30)))
not_accepted_m (unbounded c e b h) = absurd (omega (arith, c))
not_accepted_m (infeasible c h) = absurd (omega (arith, c))

-- Nor does class 3 accept its picks: the cycle uses the question, on its way back.
pub not_infeasible_m : AcceptedInfeasible Anchor (problem_of example_m.problem) (strategy_of (1 ∷ 2 ∷ [])) → ⊥
unfolding problem_of example_m num_at Uses cycle_m
not_infeasible_m c = c.no_objective (negsuc 29) (cycle_m (pos 0)) (inr (inl refl))
