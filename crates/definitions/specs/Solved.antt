-- What the engine says of a problem's bytes, and what it writes. Document 01, "The engine"; document 02, 2.1 and 2.4.
use Rattle.std.specs.Prelude.{ℕ, suc, ◌+◌, ◌*◌, ◌≡◌, true, List, [], ◌∷◌, ◌++◌, ltb, length, ℤ}
use Rattle.definitions.specs.Limits.{questions_kind, answer_most, refused_room, class_optimal, class_unbounded, class_infeasible}
use Rattle.definitions.specs.Tropical.{Trop, bot, fin, Finite}
use Rattle.definitions.specs.Problem.{Problem, Optimal, Unbounded, Infeasible}
use Rattle.definitions.specs.Certificate.{Strategy, Reachable, start_of, AnchorAnd, Leads, RowLeads}
use Rattle.definitions.specs.Bytes.{Clause, first, or_else}
use Rattle.definitions.specs.ProblemRecord.{record_refusal, problem_of, AsksOne, kind_field, n_field, m_field, count_field, questions_asked}
use Rattle.definitions.specs.Questions.{alone}
use Rattle.definitions.specs.AnswerRecord.{Answer, right_counts, start_fits, form_refusal, answer_size, answer_bytes, written}
use Rattle.definitions.specs.Bisection.{trials_optimal, trials_unbounded, trials_infeasible}
use Rattle.definitions.specs.Verdict.{Accepted, strategy_of}

-- Refusal 7 in the engine: a buffer of `room` bytes is shorter than 208 bytes a question.
abbrev pub answers_refused : ℕ → ℕ → Clause
answers_refused questions room = record { applies = ltb room (questions * answer_most); number = refused_room }

-- The first of refusals 1 to 6, 15, 17 and 20 for a problem of one question or several, then 7 for a buffer of `room` bytes; 0 where none
-- applies.
unfoldable pub engine_refusal : List ℕ → ℕ → ℕ
engine_refusal p room = or_else (record_refusal p) (first (answers_refused (questions_asked (kind_field p) (count_field p)) room ∷ []))

-- The class, span and trials of a problem: least s, bottomless or none, by its plans that count alone. The number of trials is
-- document 01's for that class and span.
pub data Found (p : Problem) : ℕ → Trop → ℕ → Type 0 where
  optimal : {s : ℤ} → Optimal p s → Found p class_optimal (fin s) (trials_optimal s)
  unbounded : Unbounded p → Found p class_unbounded bot trials_unbounded
  infeasible : Infeasible p → Found p class_infeasible bot trials_infeasible

-- Picks that play no part are 0. Classes 1 and 3: those of variables that are not reachable.
abbrev pub IdleVariables : (ℕ → Type 0) → Problem → Strategy → Type 0
IdleVariables Start p picks = (j : ℕ) → (Reachable Start (Leads p picks) j → ⊥) → picks j ≡ 0

-- Class 2: those of rows with no non-blank left coefficient of a reachable variable.
abbrev pub IdleRows : (ℕ → Type 0) → Problem → Strategy → Type 0
IdleRows Start p picks =
    (i : ℕ) → ((j : ℕ) → Reachable Start (RowLeads p picks) j → Finite (p.left i j) → ⊥) → picks i ≡ 0

-- An answer that the engine may give, of this class, span and trials. Its start, stamps and picks that play a part are free,
-- provided that the answer is accepted.
pub record Answers (p : Problem) (class : ℕ) (span : Trop) (trials : ℕ) (a : Answer) : Type 0 where
  pub found : Found p class span trials
  pub class_is : a.class ≡ class
  pub span_is : a.span ≡ span
  pub counts : right_counts a p.n p.m ≡ true
  pub start_fits_is : start_fits a.class a.start p.n ≡ true
  pub form : form_refusal a p.n p.m ≡ 0
  pub idle_variables : (class ≡ class_unbounded → ⊥) → IdleVariables (start_of p a.start) p (strategy_of a.picks)
  pub idle_rows : class ≡ class_unbounded → (k : ℕ) → a.start ≡ suc k → IdleRows (AnchorAnd k) p (strategy_of a.picks)
  pub accepted : Accepted p a

-- What the engine gives for a record: a relation between records and answers, of which nothing else is known here. Document 02, 2.1 ("the
-- answer to a kind 1 problem").
abbrev pub Giving : Type 1
Giving = List ℕ → Answer → Type 0

-- It gives at most one answer for a record. Document 02, 2.11 ("a problem's answer does not depend on the others").
pub record OneValued (Gives : Giving) : Type 0 where
  pub one : (p : List ℕ) (a b : Answer) → Gives p a → Gives p b → a ≡ b

-- The answers to the first questions of a record of several, one after another: their bytes, and the sum of their trials. Each is one
-- that the engine may give to the kind 1 problem with its question alone.
pub data AnswersInTurn (p : List ℕ) : ℕ → List ℕ → ℕ → Type 0 where
  no_question : AnswersInTurn p 0 [] 0
  one_more :
      {q trials own class : ℕ} {bytes : List ℕ} {span : Trop} (a : Answer) → AnswersInTurn p q bytes trials
      → Answers (problem_of (alone p q)) class span own a → AnswersInTurn p (suc q) (bytes ++ answer_bytes (n_field p) a) (trials + own)

-- What the engine answers: refused with the number; to one question, answered with class, span, trials and the record's size; to
-- several, all answered with their count, the sum of the trials and the size of all records.
pub data Solved : Type 0 where
  refused : ℕ → Solved
  answered : ℕ → Trop → ℕ → ℕ → Solved
  all_answered : ℕ → ℕ → ℕ → Solved

-- The engine's result and its buffer for the record p that the bytes mean (`meant`) and a lent buffer: a refusal leaves the buffer as it was; an
-- answer's record, or those of all answers one after another, stand at its start, and every byte after them is as it was.
pub data Solves (p before : List ℕ) : Solved → List ℕ → Type 0 where
  turned_away : {k : ℕ} → engine_refusal p (length before) ≡ suc k → Solves p before (refused (suc k)) before
  solved :
      {class : ℕ} {span : Trop} {trials : ℕ} (a : Answer) → AsksOne p → engine_refusal p (length before) ≡ 0
      → Answers (problem_of p) class span trials a
      → Solves p before (answered class span trials (answer_size class (n_field p) (m_field p))) (written before (answer_bytes (n_field p) a))
  all_solved :
      {bytes : List ℕ} {trials : ℕ} → kind_field p ≡ questions_kind → engine_refusal p (length before) ≡ 0
      → AnswersInTurn p (count_field p) bytes trials
      → Solves p before (all_answered (count_field p) trials (length bytes)) (written before bytes)
