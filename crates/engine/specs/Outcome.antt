-- What the engine answers on bytes, in the words of the definitions.
use Rattle.std.specs.Prelude.{ℕ, suc, ◌+◌, ◌*◌, ◌≤◌, ◌<◌, ◌≡◌, List, [], ◌++◌, length, Result, Ok, Err}
use Rattle.definitions.specs.Limits.{highest_n, highest_m, most_trials, most_questions, answer_most, questions_kind}
use Rattle.definitions.specs.Tropical.{Trop}
use Rattle.definitions.specs.Bytes.{Bytes}
use Rattle.definitions.specs.Problem.{Problem}
use Rattle.definitions.specs.ProblemRecord.{Kinds, engine_kinds, AsksOne, problem_of, kind_field, n_field, m_field, count_field, questions_asked, refusal_for}
use Rattle.definitions.specs.Questions.{alone, asking}
use Rattle.definitions.specs.Offset.{trop_of}
use Rattle.definitions.specs.AnswerRecord as Records
use Rattle.definitions.specs.AnswerRecord.{stamp_count, pick_count, answer_size, answer_bytes, writer_refusal, written}
use Rattle.definitions.specs.Solved as Results
use Rattle.definitions.specs.Solved.{Answers, AnswersInTurn}
use Rattle.records.specs.declared.problem.Kind.TheVariants.{Questions}
use Rattle.records.specs.declared.problem.Layout.{Layout}
use Rattle.records.specs.declared.refusal.Refusal.{Refusal}
use Rattle.records.specs.Classes.{class_number}
use Rattle.records.specs.ProblemHeader.{kind_number}
use Rattle.records.specs.Refusals.{number_of}
use Rattle.records.specs.Decoded.{InTables, Rewritten}
use Rattle.problem_records.specs.Tables.{left_table, right_table}
use Rattle.class_answers.specs.declared.answer.Answer.{Answer}
use Rattle.class_answers.specs.Answered.{answer_in, Given}
use Rattle.engine.specs.declared.solve.Answered.{Answered}
use Rattle.engine.specs.declared.solve.Solution.{Solution}
use Rattle.engine.specs.declared.solve.Solution.TheVariants.{One, All}

-- The papers' result for each case: the refusal's number; class, span, trials and the record's length; or count, trials and the
-- length of all records.
unfoldable pub solved_of : Result Solution Refusal → Results.Solved
solved_of (Err r) = Results.refused (number_of r)
solved_of (Ok (One a)) = Results.answered (class_number a.class) (trop_of a.span) a.trials a.size
solved_of (Ok (All count trials size)) = Results.all_answered count trials size

-- The answer that was found, as its record shows it.
abbrev pub shown_in : ℕ → ℕ → Answer → Records.Answer
shown_in n m a = answer_in n m (class_number a.class) a.span a.start a.stamps a.picks

-- What the engine gives for a record of one question: the answer to the problem in its tables. It is one (`One.gives_one`).
pub record Gives (s : List ℕ) (a : Records.Answer) : Type 0 where
  pub found : Answer
  pub n_most : n_field s ≤ highest_n
  pub given : Given (n_field s) (m_field s) (left_table s) (right_table s) found
  pub is : a ≡ shown_in (n_field s) (m_field s) found

-- Its answers to the first questions of several, one after another: each is given for the question alone. Their bytes and their trials.
pub data GivesInTurn (p : List ℕ) : ℕ → List ℕ → ℕ → Type 0 where
  none : GivesInTurn p 0 [] 0
  more :
      {q class own trials : ℕ} {span : Trop} {bytes : List ℕ} {a : Records.Answer} → GivesInTurn p q bytes trials
      → Answers (problem_of (alone p q)) class span own a → Gives (alone p q) a → GivesInTurn p (suc q) (bytes ++ answer_bytes (n_field p) a) (trials + own)

-- What it writes where nothing is refused: the answer that it gives for the record, or those that it gives for its questions. `Solves` says when it is refused.
pub data Writes (p before : List ℕ) : Results.Solved → List ℕ → Type 0 where
  refused : {k : ℕ} → Writes p before (Results.refused k) before
  one :
      {class trials : ℕ} {span : Trop} {a : Records.Answer} → AsksOne p → Answers (problem_of p) class span trials a → Gives p a
      → Writes p before (Results.answered class span trials (answer_size class (n_field p) (m_field p))) (written before (answer_bytes (n_field p) a))
  several :
      {trials : ℕ} {bytes : List ℕ} → kind_field p ≡ questions_kind → GivesInTurn p (count_field p) bytes trials
      → Writes p before (Results.all_answered (count_field p) trials (length bytes)) (written before bytes)

-- The engine's result and its buffer.
pub record SolvedAs (p before : List ℕ) (r : Result Solution Refusal) (after : List ℕ) : Type 0 where
  pub solves : Results.Solves p before (solved_of r) after
  pub writes : Writes p before (solved_of r) after

-- What was found is such as the writer takes, with a buffer of `room` bytes.
pub record FoundFor (n m room : ℕ) (a : Answer) : Type 0 where
  pub n_most : n ≤ highest_n
  pub m_most : m ≤ highest_m
  pub stamps_enough : stamp_count (class_number a.class) n ≤ length a.stamps
  pub picks_enough : pick_count (class_number a.class) n m ≤ length a.picks
  pub taken : writer_refusal (shown_in n m a) n m room ≡ 0

-- The record of an answer of each problem in the tables stands at the buffer's start, every byte after it is as it was.
pub record OneWrote (n m : ℕ) (left right : List ℕ) (r : Answered) (before after : List ℕ) : Type 0 where
  pub found : Answer
  pub given : Given n m left right found
  pub answer : Records.Answer
  pub answer_is : answer ≡ shown_in n m found
  pub answers : (p : Problem) → InTables p n m left right → Answers p (class_number r.class) (trop_of r.span) r.trials answer
  pub size_is : r.size ≡ answer_size (class_number r.class) n m
  pub buffer_is : after ≡ written before (answer_bytes n answer)

-- What was read of a record that an entry with these kinds takes: its layout, and the tables of its rules and its first question.
pub record Read (kinds : Kinds) (s : List ℕ) (l : Layout) (left right : List ℕ) : Type 0 where
  pub bytes : Bytes s
  pub within : refusal_for kinds s ≡ 0
  pub n_is : l.n ≡ n_field s
  pub m_is : l.m ≡ m_field s
  pub kind_is : kind_number l.kind ≡ kind_field s
  pub questions_is : l.questions ≡ questions_asked (kind_field s) (count_field s)
  pub questions_most : l.questions ≤ most_questions
  pub left_is : left ≡ left_table (asking s 0)
  pub right_is : right ≡ right_table (asking s 0)

-- Reading gives this, or the first refusal.
pub record LayoutRead (kinds : Kinds) (s : List ℕ) (r : Result Layout Refusal) (left right : List ℕ) : Type 0 where
  pub told : (l : Layout) → r ≡ Ok l → Read kinds s l left right
  pub refused : (k : Refusal) → r ≡ Err k → (refusal_for kinds s ≡ number_of k) × (0 < number_of k)

-- One that asks several questions, where the buffer has room for all answers.
pub record SeveralRead (s : List ℕ) (l : Layout) (left right before : List ℕ) : Type 0 where
  pub read : Read engine_kinds s l left right
  pub kind_is : l.kind ≡ Questions
  pub room : l.questions * answer_most ≤ length before

-- The answers to its first questions, one after another at the buffer's start; the tables hold its rules.
pub record Turns (s : List ℕ) (q at trials : ℕ) (before after left right : List ℕ) : Type 0 where
  pub lefts : Rewritten (m_field s) (left_table (alone s 0)) left
  pub rights : Rewritten (m_field s) (right_table (alone s 0)) right
  pub records : List ℕ
  pub in_turn : AnswersInTurn s q records trials
  pub given : GivesInTurn s q records trials
  pub at_is : at ≡ length records
  pub buffer_is : after ≡ written before records
  pub few : trials ≤ q * most_trials
  pub short : at ≤ q * answer_most
  pub same : length after ≡ length before
