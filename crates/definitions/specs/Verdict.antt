-- What the checker says of a problem's bytes and an answer's bytes. Document 01, "The checker"; document 02, 2.4.
use Rattle.std.specs.Prelude.{ℕ, suc, ◌≡◌, Bool, true, false, List, get_or, ℤ}
use Rattle.definitions.specs.Limits.{class_optimal, class_unbounded, class_infeasible}
use Rattle.definitions.specs.Tropical.{Trop, bot, fin}
use Rattle.definitions.specs.Problem.{Problem, Point}
use Rattle.definitions.specs.Certificate.{Strategy, Second, start_of, AnchorAnd, AcceptedOptimal, AcceptedUnbounded, AcceptedInfeasible}
use Rattle.definitions.specs.Bytes.{or_else}
use Rattle.definitions.specs.ProblemRecord.{problem_refusal, problem_of, n_field, m_field}
use Rattle.definitions.specs.AnswerRecord.{Answer, answer_refusal, answer_of}

-- The point that stamps give, and the strategy that picks give; read within their counts.
unfoldable pub point_of : List Trop → Point
point_of stamps j = get_or stamps j bot

unfoldable pub strategy_of : List ℕ → Strategy
strategy_of picks j = get_or picks j 0

-- All that document 01 lists under 'Accepted' for the answer's class holds, reached from the answer's start (document 02, 2.4). In class 2
-- the start names a moment of the second list.
pub data Accepted (p : Problem) (a : Answer) : Type 0 where
  optimal :
      {s : ℤ} → a.class ≡ class_optimal → a.span ≡ fin s
      → AcceptedOptimal (start_of p a.start) p s (point_of a.stamps) (strategy_of a.picks) → Accepted p a
  unbounded :
      {k : ℕ} → a.class ≡ class_unbounded → a.start ≡ suc k → Second p k → AcceptedUnbounded (AnchorAnd k) p (strategy_of a.picks)
      → Accepted p a
  infeasible :
      a.class ≡ class_infeasible → AcceptedInfeasible (start_of p a.start) p (strategy_of a.picks) → Accepted p a

-- The first of refusals 1 to 6, 17 and 20 for the problem, then 8 to 13 for the answer, that applies; 0 where none does.
unfoldable pub check_refusal : List ℕ → List ℕ → ℕ
check_refusal p a = or_else (problem_refusal p) (answer_refusal a (n_field p) (m_field p))

-- Refusal 14: the form is right and the answer is not accepted.
abbrev pub not_certified : ℕ
not_certified = 14

-- What the checker answers: accepted, with class and span, or refused, with the number.
pub data Verdict : Type 0 where
  accepted : ℕ → Trop → Verdict
  refused : ℕ → Verdict

-- The verdict gives no refusal.
unfoldable pub accepts : Verdict → Bool
accepts (accepted class span) = true
accepts (refused k) = false

-- The answer that the bytes a mean for the problem in the bytes p.
abbrev pub answer_for : List ℕ → List ℕ → Answer
answer_for p a = answer_of a (n_field p) (m_field p)

-- The verdict on the record p that a problem's bytes mean (`meant`) and the bytes a: refused with the first refusal; else accepted exactly when all that is listed
-- holds, and not certified exactly when not.
pub data Judged (p a : List ℕ) : Verdict → Type 0 where
  turned_away : {k : ℕ} → check_refusal p a ≡ suc k → Judged p a (refused (suc k))
  certified :
      check_refusal p a ≡ 0 → Accepted (problem_of p) (answer_for p a)
      → Judged p a (accepted (answer_for p a).class (answer_for p a).span)
  uncertified : check_refusal p a ≡ 0 → (Accepted (problem_of p) (answer_for p a) → ⊥) → Judged p a (refused not_certified)
