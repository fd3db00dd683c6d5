-- The reasons program on the bytes of A and of E: the lines of document 02, 2.5.
use Prim.Native.Nat.{ℕ}
use mathlib.Core.Path.{◌≡◌, refl, sym}
use mathlib.Core.List.{◌++◌, List, [], ◌∷◌}
use native.Mathlib.Omega.{arith}
use Rattle.definitions.specs.Tropical.{Trop}
use Rattle.definitions.specs.Bytes.{num_at}
use Rattle.definitions.specs.ProblemRecord.{problem_of}
use Rattle.definitions.specs.AnswerRecord.{answer_of}
use Rattle.definitions.specs.Verdict.{Verdict, Accepted, accepted, check_refusal, answer_for, Judged, turned_away, certified, uncertified}
use Rattle.definitions.specs.Programs.{cut_place, problem_part, answer_part}
use Rattle.definitions.specs.Examples.{Example, examples, example_a, example_e}
use Rattle.definitions.specs.Reasons as Reasons
use Rattle.definitions.specs.Reasons.{ReasonsOutput, of_least}
use Rattle.definitions.proofs.ReasonsFacts.{rules_a, round_a, rules_e, round_e, lines_a, lines_e}
use Rattle.guarantees.proofs.Starred.{Each, more, starred_examples}

-- What an accepted verdict rests on.
accepted_by : {p a : List ℕ} {v : Verdict} {class : ℕ} {span : Trop} → Judged p a v → v ≡ accepted class span → (check_refusal p a ≡ 0) × Accepted (problem_of p) (answer_for p a)
accepted_by (turned_away e) f = absurd (let z : ◌≡◌ {A = ℕ} 0 1 = cc in omega arith)
accepted_by (certified e h) f = (e, h)
accepted_by (uncertified e h) f = absurd (let z : ◌≡◌ {A = ℕ} 0 1 = cc in omega arith)

first : {P : Example → Type 0} {a : Example} {es : List Example} → Each P (a ∷ es) → P a
first (more a es) = a

fifth : {P : Example → Type 0} {a b c d e : Example} {es : List Example} → Each P (a ∷ b ∷ c ∷ d ∷ e ∷ es) → P e
fifth (more a (more b (more c (more d (more e es))))) = e

-- A: `rules` alone, and `round 0`.
pub reasons_a : ReasonsOutput (example_a.problem ++ example_a.answer) (114 ∷ 117 ∷ 108 ∷ 101 ∷ 115 ∷ 10 ∷ 114 ∷ 111 ∷ 117 ∷ 110 ∷ 100 ∷ 32 ∷ 48 ∷ 10 ∷ [])
unfolding examples example_a problem_of num_at answer_of cut_place problem_part answer_part
reasons_a =
    let a = accepted_by (first starred_examples).judged refl in
    record { reasons = of_least [] (0 ∷ []); reasoned = Reasons.least a.0 a.1 refl rules_a round_a; lines = sym lines_a }

-- E: `rules 1` and `round 0 1`.
pub reasons_e : ReasonsOutput (example_e.problem ++ example_e.answer)
    (114 ∷ 117 ∷ 108 ∷ 101 ∷ 115 ∷ 32 ∷ 49 ∷ 10 ∷ 114 ∷ 111 ∷ 117 ∷ 110 ∷ 100 ∷ 32 ∷ 48 ∷ 32 ∷ 49 ∷ 10 ∷ [])
unfolding examples example_e problem_of num_at answer_of cut_place problem_part answer_part
reasons_e =
    let e = accepted_by (fifth starred_examples).judged refl in
    record { reasons = of_least (1 ∷ []) (0 ∷ 1 ∷ []); reasoned = Reasons.least e.0 e.1 refl rules_e round_e; lines = sym lines_e }
