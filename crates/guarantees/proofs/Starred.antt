-- The starred examples of document 01, over the one table of the definitions: class and span hold by the definitions,
-- through the checker's soundness; M is not certified.
use Prim.Native.Nat.{ℕ, suc}
use mathlib.Core.Path.{◌≡◌, refl, sym, ap, subst}
use mathlib.Core.Bool.{Bool, true, false, ◌&&◌, and-eq-true_iff, false≢true}
use mathlib.Core.List.{◌++◌, List, [], ◌∷◌, map}
use native.Mathlib.Omega.{arith}
use lib.IntN.{ℤ, pos}
use Rattle.definitions.specs.Limits.{class_optimal, span_limit}
use Rattle.definitions.specs.Tropical.{Trop, bot, fin, plus, larger, largest}
use Rattle.definitions.specs.Bytes.{all, some_below, blank_or_within, num_at, nums_at, signed, trop_field, trop_at}
use Rattle.definitions.specs.Problem.{Problem, Optimal, side, value, minus}
use Rattle.definitions.specs.Certificate.{raise}
use Rattle.definitions.specs.ProblemRecord.{problem_of, problem_refusal, header_refusal, header_judged, leads_of, n_field, m_field, refusal_for}
use Rattle.definitions.specs.AnswerRecord.{answer_of, answer_refusal}
use Rattle.definitions.specs.Verdict.{check_refusal, answer_for, point_of, strategy_of, accepted, refused, Judged, certified, uncertified}
use Rattle.definitions.specs.Examples.{Example, examples, example_a, example_b, example_c, example_d, example_e, example_f, example_g, example_h, example_i, example_j, example_k, example_m}
use Rattle.definitions.specs.Programs.{digits, decimal, whole_decimal, span_decimal, text_accepted, text_least, class_words, verdict_line, cut_place, problem_part, answer_part, VerdictOutput}
use Rattle.definitions.specs.Demands.{Checker, CheckerJudges, SomeTable, least_answer}
use Rattle.definitions.proofs.Refusals.{or_else_none}
use Rattle.definitions.proofs.Examples.{as_read, no_refusals, words_are_read, accepted_a, not_accepted_m, plan_e, fits_e, feasible_e, value_e}
use Rattle.definitions.proofs.Tropical.{fin_injective}
use Rattle.guarantees.specs.ClassHolds as Classes
use Rattle.guarantees.specs.ClassHolds.{ClassHolds}
use Rattle.checker.proofs.Judgement.{judged_unique, all_bytes}
use Rattle.guarantees.proofs.Holding.{accepted_holds}
use Rattle.checker.proofs.Demand3.{least_exactly}
use Rattle.strategy_tests.proofs.Certified.{strict, loose}
use Rattle.guarantees.proofs.Potentials.{every, at_most, same_whole, is_whole, is_value, finite?, falls, left_falls, pick_falls, variable_falls, met_at, start_met, variables_fall, rises, row_pick, row_left, variable_rises, variables_rise, least_tested, bottomless_tested, tested, tested_accepted}

-- P holds of each example of a list.
pub data Each (P : Example → Type 0) : List Example → Type 0 where
  none : Each P []
  more : {e : Example} {es : List Example} → P e → Each P es → Each P (e ∷ es)

-- What holds of an example: its answer is judged as the table says, and where that is accepted, its class and span are the problem's by the
-- definitions.
pub record Shown (e : Example) : Type 0 where
  pub judged : Judged e.problem e.answer e.verdict
  pub holds : e.verdict ≡ accepted e.class e.span → ClassHolds (problem_of e.problem) e.class e.span

-- ---- potentials

-- For each example a potential that shows its answer accepted: 32 times the weights in classes 1 and 3.
potentials : List (List Trop)
potentials =
    (fin (pos 0) ∷ [])
    ∷ (fin (pos 0) ∷ [])
    ∷ (fin (pos 0) ∷ [])
    ∷ (bot ∷ [])
    ∷ (fin (pos 0) ∷ fin (pos 929) ∷ [])
    ∷ (fin (pos (suc span_limit)) ∷ fin (pos 0) ∷ [])
    ∷ (fin (pos 0) ∷ fin (pos 641) ∷ [])
    ∷ (fin (pos 0) ∷ fin (pos 929) ∷ [])
    ∷ (fin (pos 0) ∷ fin (pos 1409) ∷ fin (pos 1409) ∷ [])
    ∷ (bot ∷ fin (pos 0) ∷ fin (pos 321) ∷ [])
    ∷ (fin (pos 0) ∷ fin (pos 0) ∷ [])
    ∷ []

unfoldable all_tested : List Example → List (List Trop) → Bool
all_tested [] qs = true
all_tested (e ∷ es) [] = false
all_tested (e ∷ es) (q ∷ qs) = tested (problem_of e.problem) (answer_for e.problem e.answer) q && all_tested es qs

-- A to K, whose answers are accepted: all of the table but M, its last.
unfoldable accepted_examples : List Example
accepted_examples =
    example_a
    ∷ example_b
    ∷ example_c
    ∷ example_d
    ∷ example_e
    ∷ example_f
    ∷ example_g
    ∷ example_h
    ∷ example_i
    ∷ example_j
    ∷ example_k
    ∷ []

all_but_m : accepted_examples ++ (example_m ∷ []) ≡ examples
unfolding accepted_examples examples
all_but_m = refl

verdicts_accepted : map (λ e. e.verdict) accepted_examples ≡ map (λ e. accepted e.class e.span) accepted_examples
unfolding accepted_examples example_a example_b example_c example_d example_e example_f example_g example_h example_i example_j example_k
verdicts_accepted = refl

-- Every answer of theirs passes.
examples_tested : all_tested accepted_examples potentials ≡ true
unfolding all_tested potentials accepted_examples example_a example_b example_c example_d example_e example_f example_g example_h example_i example_j example_k problem_of answer_of num_at nums_at trop_field signed trop_at side value minus largest larger plus raise point_of strategy_of tested least_tested bottomless_tested every at_most same_whole is_whole is_value finite? falls left_falls pick_falls variable_falls met_at start_met variables_fall rises row_pick row_left variable_rises variables_rise strict loose
examples_tested = refl

-- ---- what the table's laws say of each example

each_same : {B : Type 0} (f g : Example → B) (es : List Example) → map f es ≡ map g es → Each (λ e. f e ≡ g e) es
each_same f g [] h = none
each_same f g (e ∷ es) h =
    let here : f e ≡ g e = cc in
    let rest : map f es ≡ map g es = cc in
    more here (each_same f g es rest)

each_read : (es : List Example) → map as_read es ≡ es → Each (λ e. as_read e ≡ e) es
each_read [] h = none
each_read (e ∷ es) h =
    let here : as_read e ≡ e = cc in
    let rest : map as_read es ≡ es = cc in
    more here (each_read es rest)

each_of_first : {P : Example → Type 0} (es fs : List Example) → Each P (es ++ fs) → Each P es
each_of_first [] fs h = none
each_of_first (e ∷ es) fs (more h hs) = more h (each_of_first es fs hs)

each_of_second : {P : Example → Type 0} (es fs : List Example) → Each P (es ++ fs) → Each P fs
each_of_second [] fs h = h
each_of_second (e ∷ es) fs (more h hs) = each_of_second es fs hs

each_of_both : {P : Example → Type 0} {es fs : List Example} → Each P es → Each P fs → Each P (es ++ fs)
each_of_both none k = k
each_of_both (more h hs) k = more h (each_of_both hs k)

each_first : {P : Example → Type 0} {e : Example} {es : List Example} → Each P (e ∷ es) → P e
each_first (more h hs) = h

-- The answer is of the right form.
abbrev Formed : Example → Type 0
Formed e = check_refusal e.problem e.answer ≡ 0

all_formed : Each Formed (accepted_examples ++ (example_m ∷ []))
all_formed = subst (Each Formed) (sym all_but_m) (each_same (λ e. check_refusal e.problem e.answer) (λ e. 0) examples no_refusals)

all_read : Each (λ e. as_read e ≡ e) (accepted_examples ++ (example_m ∷ []))
all_read = subst (Each (λ e. as_read e ≡ e)) (sym all_but_m) (each_read examples words_are_read)

-- ---- A to K

one_shown :
    (e : Example) (q : List Trop) → Formed e → as_read e ≡ e → e.verdict ≡ accepted e.class e.span
    → tested (problem_of e.problem) (answer_for e.problem e.answer) q ≡ true → Shown e
unfolding check_refusal as_read answer_of
one_shown e q formed words verdict t =
    let refusals = (or_else_none (problem_refusal e.problem) (answer_refusal e.answer (n_field e.problem) (m_field e.problem))).0 formed in
    let a = tested_accepted e.problem e.answer q refusals.0 refusals.1 t in
    let h = accepted_holds e.problem e.answer refusals.1 a in
    let j : Judged e.problem e.answer (accepted (answer_for e.problem e.answer).class (answer_for e.problem e.answer).span) = certified formed a in
    let class_is : (answer_for e.problem e.answer).class ≡ e.class = ap (λ (x : Example). x.class) words in
    let span_is : (answer_for e.problem e.answer).span ≡ e.span = ap (λ (x : Example). x.span) words in
    record { judged = subst (Judged e.problem e.answer) (sym verdict) (rw (class_is, span_is) at j); holds = λ _. rw (class_is, span_is) at h }

each_shown :
    (es : List Example) (qs : List (List Trop)) → Each Formed es → Each (λ e. as_read e ≡ e) es
    → Each (λ e. e.verdict ≡ accepted e.class e.span) es → all_tested es qs ≡ true → Each Shown es
unfolding all_tested
each_shown [] qs none none none t = none
each_shown (e ∷ es) [] (more f fs) (more w ws) (more v vs) t = absurd (false≢true t)
each_shown (e ∷ es) (q ∷ qs) (more f fs) (more w ws) (more v vs) t =
    let both = (and-eq-true_iff _ _).0 t in
    more (one_shown e q f w v both.0) (each_shown es qs fs ws vs both.1)

-- ---- M

-- M's stamp and span are 31, and a cycle weighs 0: the form is right, and it is not certified.
pub judged_m : Judged example_m.problem example_m.answer (refused 14)
unfolding example_m problem_of num_at
judged_m = uncertified (each_first (each_of_second accepted_examples (example_m ∷ []) all_formed)) not_accepted_m

shown_m : Shown example_m
unfolding example_m
shown_m = record { judged = judged_m; holds = λ e. let z : ◌≡◌ {A = ℕ} 0 1 = cc in absurd (omega arith) }

-- So every checker that judges refuses it with 14.
pub refused_m : (check : Checker) → CheckerJudges check → check example_m.problem example_m.answer ≡ refused 14
unfolding example_m all
refused_m check judges =
    judged_unique
    (judges example_m.problem example_m.answer (record { bytes = (all_bytes example_m.problem).0 refl; size = omega arith })
    (record { bytes = (all_bytes example_m.answer).0 refl; size = omega arith })) judged_m

-- ---- the theorem

-- The starred examples, together: every answer of the table is judged as it says, M's with 14, and A to K have document 01's class and span,
-- where document 02, 2.4, has changed J and D.
pub starred_examples : Each Shown examples
starred_examples =
    subst (Each Shown) all_but_m
    (each_of_both
    (each_shown accepted_examples potentials (each_of_first accepted_examples (example_m ∷ []) all_formed) (each_of_first accepted_examples (example_m ∷ []) all_read)
    (each_same (λ e. e.verdict) (λ e. accepted e.class e.span) accepted_examples verdicts_accepted) examples_tested)
    (more shown_m none))

-- ---- E

-- E's least span, from the table.
least_of : {p : Problem} {c : ℕ} {x : Trop} → ClassHolds p c x → (s : ℤ) → c ≡ class_optimal → x ≡ fin s → Optimal p s
least_of {p} (Classes.optimal o) s e f = subst (Optimal p) (fin_injective f) o
least_of (Classes.unbounded u) s e f = absurd (omega (arith, e))
least_of (Classes.infeasible n) s e f = absurd (omega (arith, e))

fifth : {P : Example → Type 0} {a b c d e : Example} {es : List Example} → Each P (a ∷ b ∷ c ∷ d ∷ e ∷ es) → P e
fifth (more a (more b (more c (more d (more e es))))) = e

pub optimal_e : Optimal (problem_of example_e.problem) (pos 30)
unfolding examples example_e
optimal_e = least_of ((fifth starred_examples).holds refl) (pos 30) refl refl

-- So every checker that judges accepts E's plan with some table: what demand 3 says of plans that fit, of this one.
pub accepted_e : (check : Checker) → CheckerJudges check → SomeTable check example_e.problem class_optimal (least_answer (n_field example_e.problem) (pos 30) plan_e)
unfolding example_e all some_below num_at refusal_for header_refusal header_judged leads_of nums_at blank_or_within trop_field signed
accepted_e check judges =
    (least_exactly check judges example_e.problem (record { bytes = (all_bytes example_e.problem).0 refl; size = omega arith }) refl plan_e (pos 30) fits_e feasible_e value_e).1 optimal_e.least

-- ---- A's 40 bytes

-- A's problem followed by its answer, as input of the verdict program, is accepted as least with span 3; the line says so.
pub output_a : VerdictOutput (example_a.problem ++ example_a.answer)
    (97 ∷ 99 ∷ 99 ∷ 101 ∷ 112 ∷ 116 ∷ 101 ∷ 100 ∷ 32 ∷ 108 ∷ 101 ∷ 97 ∷ 115 ∷ 116 ∷ 32 ∷ 51 ∷ 10 ∷ [])
unfolding accepted_examples example_a problem_of num_at answer_of trop_at trop_field signed cut_place problem_part answer_part verdict_line class_words span_decimal whole_decimal decimal digits text_accepted text_least
output_a = record { verdict = accepted 1 (fin (pos 3)); judged = certified (each_first all_formed) accepted_a; line = refl }
