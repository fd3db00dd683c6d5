-- An idle day (document 02, 2.9) for every engine, checker and program that meets its contract: no bytes are answered with least 0, an
-- empty answer to them gets 8, and so does no input of the verdict program.
use Prim.Native.Nat.{ℕ, ◌≤◌}
use mathlib.Core.Path.{◌≡◌, refl, ap, ◌∙◌}
use mathlib.Core.List.{List, []}
use native.Mathlib.Omega.{arith}
use lib.ListN.{length}
use lib.IntN.{ℤ, pos}
use Rattle.definitions.specs.Limits.{answer_most, class_optimal}
use Rattle.definitions.specs.Tropical.{Trop, fin}
use Rattle.definitions.specs.Problem.{Problem, Optimal}
use Rattle.definitions.specs.AnswerRecord.{answer_size}
use Rattle.definitions.specs.Bisection.{trials_optimal}
use Rattle.definitions.specs.Verdict.{refused, turned_away}
use Rattle.definitions.specs.Solved.{answered, Found, optimal, unbounded, infeasible}
use Rattle.definitions.specs.Programs.{VerdictOutput, verdict_line, cut_place, problem_part, answer_part}
use Rattle.definitions.specs.Demands.{Slice, Engine, EngineSolves, Checker, CheckerJudges}
use Rattle.definitions.proofs.IdleDay.{idle_within, idle_n, idle_least, no_input}
use Rattle.duality.proofs.Classes.{optimal_unique, infeasible_not_optimal, unbounded_not_optimal}
use Rattle.checker.proofs.Judgement.{judged_unique}
use Rattle.guarantees.proofs.Engine.{engine_answer}

-- What is found of a problem with a least span is that.
least_found : {p : Problem} {class : ℕ} {span : Trop} {trials : ℕ} → Found p class span trials → (s : ℤ) → Optimal p s
    → (class ≡ class_optimal) × (span ≡ fin s) × (trials ≡ trials_optimal s)
least_found {p} (optimal {s = t} o) s h = let e = optimal_unique p t s o h in (refl, ap fin e, ap trials_optimal e)
least_found {p} (unbounded u) s h = absurd (unbounded_not_optimal p u (record { at = s; optimal = h }))
least_found {p} (infeasible n) s h = absurd (infeasible_not_optimal p n (record { at = s; optimal = h }))

no_bytes : Slice []
no_bytes = record { bytes = record { byte = λ i. omega arith }; size = omega arith }

-- "whose answer is least 0"
pub idle_answered : (engine : Engine) → EngineSolves engine → (buffer : List ℕ) → Slice buffer → answer_most ≤ length buffer
    → engine.result [] buffer ≡ answered class_optimal (fin (pos 0)) (trials_optimal (pos 0)) (answer_size class_optimal 0 0)
idle_answered engine solves buffer b long =
    let e = engine_answer engine solves [] buffer no_bytes b idle_within long in
    let f = least_found e.answers.found (pos 0) idle_least in
    e.result_is ∙ rw (f.0, f.1, f.2, idle_n) refl

-- An empty answer to no bytes.
pub idle_empty : (check : Checker) → CheckerJudges check → check [] [] ≡ refused 8
unfolding cut_place problem_part answer_part
idle_empty check judges = judged_unique (judges [] [] no_bytes no_bytes) (turned_away {k = 7} no_input)

-- "In the verdict program empty input gives `refused 8`."
pub empty_input : (output : List ℕ) → VerdictOutput [] output → output ≡ verdict_line (refused 8)
empty_input output v = v.line ∙ ap verdict_line (judged_unique v.judged (turned_away {k = 7} no_input))
