-- Small facts that pin the rules behind an answer and the binding round: of examples A and E, and the words of the lines. Document 02, 2.5.
use Prim.Native.Nat.{ℕ, zero, suc, ◌≤◌, ◌<◌}
use mathlib.Core.Path.{◌≡◌, refl}
use mathlib.Core.List.{[], ◌∷◌}
use native.Mathlib.Omega.{arith}
use Rattle.definitions.specs.Bytes.{num_at, nums_at, trop_field, trop_at, signed}
use Rattle.definitions.specs.Tropical.{plus, larger, largest}
use Rattle.definitions.specs.Problem.{Problem, side}
use Rattle.definitions.specs.Certificate as Certificates
use Rattle.definitions.specs.Certificate.{start_of}
use Rattle.definitions.specs.ProblemRecord.{problem_of, list_of}
use Rattle.definitions.specs.AnswerRecord.{Answer, answer_of}
use Rattle.definitions.specs.Verdict.{point_of, strategy_of, answer_for}
use Rattle.definitions.specs.Programs.{decimal, digits, verdict_line, refused_line, text_refused}
use Rattle.definitions.specs.Examples.{example_a, example_e}
use Rattle.definitions.specs.Reasons.{no_number, with_it, RulesBehind, Yields, at_anchor, Round, refused, of_none, of_least, spaced, text_rules, text_round, reasons_lines, bottomless_refused}
use Rattle.definitions.proofs.Tropical.{bot_not_fin}

-- ---- A: no rule is picked, and the round is the anchor

abbrev pub problem_a : Problem
problem_a = problem_of example_a.problem

abbrev pub answer_a : Answer
answer_a = answer_for example_a.problem example_a.answer

pub rules_a : RulesBehind problem_a answer_a []
unfolding problem_of example_a num_at
rules_a = no_number

pub round_a : Round problem_a (point_of answer_a.stamps) (strategy_of answer_a.picks) answer_a.start (0 ∷ [])
unfolding problem_of answer_of example_a num_at nums_at trop_at trop_field signed point_of strategy_of side largest larger plus list_of
round_a =
    record {
      turn = λ i. 0;
      begins = at_anchor;
      back = 0;
      last = 0;
      after = omega arith;
      yields = λ i h. record { row = 0; picked = refl; row_yields = record { inside = omega arith; latest = refl; first = λ k l. absurd (omega arith) } };
      new = λ i k h l. absurd (omega arith);
      again = refl;
      round_is = refl;
    }

-- ---- E: rule 1, and the round from the anchor to moment 1 and back by the question

abbrev pub problem_e : Problem
problem_e = problem_of example_e.problem

abbrev pub answer_e : Answer
answer_e = answer_for example_e.problem example_e.answer

pub rules_e : RulesBehind problem_e answer_e (1 ∷ [])
unfolding problem_of answer_of example_e num_at nums_at strategy_of start_of
rules_e = with_it no_number (record { moment = 0; reached = Certificates.start refl; picked = refl })

-- The turns go 0, 1, 0.
turns_e : ℕ → ℕ
turns_e zero = 0
turns_e (suc zero) = 1
turns_e (suc (suc i)) = 0

pub round_e : Round problem_e (point_of answer_e.stamps) (strategy_of answer_e.picks) answer_e.start (0 ∷ 1 ∷ [])
unfolding problem_of answer_of example_e num_at nums_at trop_at trop_field signed point_of strategy_of side largest larger plus list_of turns_e
round_e =
    record {
      turn = turns_e;
      begins = at_anchor;
      back = 0;
      last = 1;
      after = omega arith;
      yields = yields;
      new = new;
      again = refl;
      round_is = refl;
    }
  where
    yields : (i : ℕ) → i ≤ 1 → Yields problem_e (point_of answer_e.stamps) (strategy_of answer_e.picks) (turns_e i) (turns_e (suc i))
    yields zero h =
        record { row = 0; picked = refl; row_yields = record { inside = omega arith; latest = refl; first = first } }
      where
        first : (k : ℕ) → k < 1 → plus (problem_e.right 0 k) (point_of answer_e.stamps k) ≡ side 1 (problem_e.right 0) (point_of answer_e.stamps) → ⊥
        first zero l e = bot_not_fin e
        first (suc k) l e = absurd (omega arith)
    yields (suc zero) h = record { row = 1; picked = refl; row_yields = record { inside = omega arith; latest = refl; first = λ k l. absurd (omega arith) } }
    yields (suc (suc i)) h = absurd (omega arith)

    new : (i k : ℕ) → i < k → k ≤ 1 → turns_e i ≡ turns_e k → ⊥
    new zero zero h l e = absurd (omega arith)
    new zero (suc zero) h l e = omega arith
    new zero (suc (suc k)) h l e = absurd (omega arith)
    new (suc i) k h l e = absurd (omega arith)

-- ---- the lines

-- E: `rules 1` and `round 0 1`.
pub lines_e :
    reasons_lines (of_least (1 ∷ []) (0 ∷ 1 ∷ []))
    ≡ 114 ∷ 117 ∷ 108 ∷ 101 ∷ 115 ∷ 32 ∷ 49 ∷ 10 ∷ 114 ∷ 111 ∷ 117 ∷ 110 ∷ 100 ∷ 32 ∷ 48 ∷ 32 ∷ 49 ∷ 10 ∷ []
unfolding reasons_lines text_rules text_round spaced decimal digits
lines_e = refl

-- A: `rules` alone, and `round 0`.
pub lines_a : reasons_lines (of_least [] (0 ∷ [])) ≡ 114 ∷ 117 ∷ 108 ∷ 101 ∷ 115 ∷ 10 ∷ 114 ∷ 111 ∷ 117 ∷ 110 ∷ 100 ∷ 32 ∷ 48 ∷ 10 ∷ []
unfolding reasons_lines text_rules text_round spaced decimal digits
lines_a = refl

-- None: only the first line, as `rules 1 42`.
pub lines_none : reasons_lines (of_none (1 ∷ 42 ∷ [])) ≡ 114 ∷ 117 ∷ 108 ∷ 101 ∷ 115 ∷ 32 ∷ 49 ∷ 32 ∷ 52 ∷ 50 ∷ 10 ∷ []
unfolding reasons_lines text_rules spaced decimal digits
lines_none = refl

-- `refused 16`.
pub line_bottomless : reasons_lines (refused bottomless_refused) ≡ 114 ∷ 101 ∷ 102 ∷ 117 ∷ 115 ∷ 101 ∷ 100 ∷ 32 ∷ 49 ∷ 54 ∷ 10 ∷ []
unfolding reasons_lines verdict_line refused_line text_refused decimal digits
line_bottomless = refl
