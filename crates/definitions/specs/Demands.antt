-- The three demands of the service description, sentence by sentence, as statements about any functions on bytes:
-- an engine, a checker, readers, a writer and the two programs. That a function ends on every string of bytes is part
-- of its being a function. Document 01 says under "The checker" what the words of demand 3 mean, and document 02, 2.4, with which plans it compares. No bytes mean the idle day (document 02,
-- 2.9): of a string of bytes p the demands hold with the record that it means, `meant p`.
use Rattle.std.specs.Prelude.{ℕ, suc, ◌+◌, ◌*◌, ◌≤◌, ◌<◌, ◌≡◌, true, ◌↔◌, List, [], length, get_or, take, drop, ℤ}
use Rattle.definitions.specs.Limits.{questions_kind, most_trials, class_optimal, class_unbounded, class_infeasible, answer_most, kept_bytes, word_values}
use Rattle.definitions.specs.Tropical.{Trop, bot, fin}
use Rattle.definitions.specs.Problem.{Problem, Point, Feasible, Counts, value, whole, plus_infinity, ◌≼◌, Attainable}
use Rattle.definitions.specs.Bytes.{Bytes, Outcome, refusal, gives}
use Rattle.definitions.specs.Offset.{trop_of}
use Rattle.definitions.specs.ProblemRecord.{record_refusal, WithinLayout, WithinLayouts, meant, problem_of, kind_field, n_field, m_field, count_field, list_of}
use Rattle.definitions.specs.Questions.{part, alone, asking}
use Rattle.definitions.specs.AnswerRecord.{Answer, answer_refusal, writer_refusal, answer_of, answer_bytes, answer_size, start_fits, pick_count, highest_pick, picks_fit, span_fits, stamps_fit, written}
use Rattle.definitions.specs.Verdict.{Verdict, accepted, refused, accepts, check_refusal, Accepted, answer_for, point_of, Judged}
use Rattle.definitions.specs.Solved.{Solved, answered, all_answered, Found, Answers, engine_refusal, Solves}
use Rattle.definitions.specs.Programs.{VerdictOutput, SpanOutput, ReadFrom}

-- ---- what can be handed over

-- A number of 64 bits.
abbrev pub Word : ℕ → Type 0
Word k = k < word_values

-- A slice of bytes. That every element is a byte and the length a number of 64 bits is no premise on what stands there.
pub record Slice (s : List ℕ) : Type 0 where
  pub bytes : Bytes s
  pub size : Word (length s)

-- A slice of such numbers.
pub record Words (xs : List ℕ) : Type 0 where
  pub word : (i : ℕ) → Word (get_or xs i 0)
  pub size : Word (length xs)

-- A span or stamp that has an offset number of 64 bits.
pub record Numbered (x : Trop) : Type 0 where
  pub number : ℕ
  pub fits : Word number
  pub means : trop_of number ≡ x

-- An answer that can be handed to a writer: class, start and picks are numbers of 64 bits, span and stamps have such offset numbers.
pub record Handed (a : Answer) : Type 0 where
  pub class : Word a.class
  pub span : Numbered a.span
  pub start : Word a.start
  pub stamps : (i : ℕ) → Numbered (get_or a.stamps i bot)
  pub stamps_size : Word (length a.stamps)
  pub picks : Words a.picks

-- ---- the functions that the demands speak of

-- A checker: the verdict for the bytes of a problem and of an answer.
abbrev pub Checker : Type 0
Checker = List ℕ → List ℕ → Verdict

-- An engine: for the bytes of a problem and a lent buffer, the result and the buffer afterwards.
pub record Engine : Type 0 where
  pub result : List ℕ → List ℕ → Solved
  pub buffer : List ℕ → List ℕ → List ℕ

-- A problem reader that was lent two tables: for bytes the refusal, 0 for none, the problem, and the tables afterwards.
pub record ProblemReader : Type 0 where
  pub lent_left : List ℕ
  pub lent_right : List ℕ
  pub number : List ℕ → ℕ
  pub problem : List ℕ → Problem
  pub left : List ℕ → List ℕ
  pub right : List ℕ → List ℕ

-- An answer reader that was lent two arrays: for bytes and the problem's n and m the refusal or the fields, and the arrays
-- afterwards.
pub record Reader : Type 0 where
  pub lent_stamps : List ℕ
  pub lent_picks : List ℕ
  pub reading : List ℕ → ℕ → ℕ → Outcome Answer
  pub stamps : List ℕ → ℕ → ℕ → List ℕ
  pub picks : List ℕ → ℕ → ℕ → List ℕ

-- An answer writer: for fields, the problem's n and m and a lent buffer, the refusal, 0 for none, and the buffer
-- afterwards.
pub record Writer : Type 0 where
  pub number : Answer → ℕ → ℕ → List ℕ → ℕ
  pub buffer : Answer → ℕ → ℕ → List ℕ → List ℕ

-- A program: what it puts out, by the bytes of its input that it kept and the size of its input. That reading keeps and
-- counts the input, and that what is put out is written, rests on the contracts of the C functions that do it.
abbrev pub Program : Type 0
Program = List ℕ → ℕ → List ℕ

-- ---- demand 1

-- Bytes outside the layouts get the first refusal that applies, and what was lent is then untouched. The only premise is
-- that something can be handed over: no entry relies on somebody having looked beforehand.
pub record EngineRefuses (engine : Engine) : Type 0 where
  pub first_refusal :
      (p buffer : List ℕ) → Slice p → Slice buffer → (k : ℕ) → engine_refusal (meant p) (length buffer) ≡ suc k
      → engine.result p buffer ≡ Solved.refused (suc k)
  pub untouched :
      (p buffer : List ℕ) → Slice p → Slice buffer → (k : ℕ) → engine_refusal (meant p) (length buffer) ≡ suc k
      → engine.buffer p buffer ≡ buffer

abbrev pub CheckerRefuses : Checker → Type 0
CheckerRefuses check =
    (p a : List ℕ) → Slice p → Slice a → (k : ℕ) → check_refusal (meant p) a ≡ suc k → check p a ≡ refused (suc k)

pub record ProblemReaderRefuses (read : ProblemReader) : Type 0 where
  pub number_is : (p : List ℕ) → Slice p → read.number p ≡ record_refusal (meant p)
  pub untouched :
      (p : List ℕ) → Slice p → (k : ℕ) → record_refusal (meant p) ≡ suc k
      → (read.left p ≡ read.lent_left) × (read.right p ≡ read.lent_right)

pub record ReaderRefuses (read : Reader) : Type 0 where
  pub first_refusal :
      (s : List ℕ) → Slice s → (n m k : ℕ) → Word n → Word m → answer_refusal s n m ≡ suc k → read.reading s n m ≡ refusal (suc k)
  pub untouched :
      (s : List ℕ) → Slice s → (n m k : ℕ) → Word n → Word m → answer_refusal s n m ≡ suc k
      → (read.stamps s n m ≡ read.lent_stamps) × (read.picks s n m ≡ read.lent_picks)

pub record WriterRefuses (write : Writer) : Type 0 where
  pub number_is :
      (a : Answer) (n m : ℕ) (buffer : List ℕ) → Handed a → Word n → Word m → Slice buffer
      → write.number a n m buffer ≡ writer_refusal a n m (length buffer)
  pub untouched :
      (a : Answer) (n m : ℕ) (buffer : List ℕ) → Handed a → Word n → Word m → Slice buffer → (k : ℕ)
      → writer_refusal a n m (length buffer) ≡ suc k → write.buffer a n m buffer ≡ buffer

-- The program as a whole takes every string of bytes, and puts out what document 01 says, though it holds only 20,000 bytes
-- and may stop counting from 2³³ on.
pub record ProgramsAnswer (span verdict : Program) : Type 0 where
  pub span_output :
      (kept : List ℕ) → Bytes kept → length kept ≡ kept_bytes → (size : ℕ) → Word size → (input : List ℕ) → ReadFrom kept size input
      → SpanOutput (meant input) (span kept size)
  pub verdict_output :
      (kept : List ℕ) → Bytes kept → length kept ≡ kept_bytes → (size : ℕ) → Word size → (input : List ℕ) → ReadFrom kept size input
      → VerdictOutput input (verdict kept size)

-- ---- demand 2

-- For every problem within the layout (and a buffer that is long enough) the class and least span are those of the
-- theory, by the plans that count (document 02, 2.4), in at most 24 trials.
pub record FoundBy (engine : Engine) (p buffer : List ℕ) : Type 0 where
  pub class : ℕ
  pub span : Trop
  pub trials : ℕ
  pub size : ℕ
  pub result_is : engine.result p buffer ≡ answered class span trials size
  pub found : Found (problem_of (meant p)) class span trials
  pub few : trials ≤ most_trials

abbrev pub LeastSpans : Engine → Type 0
LeastSpans engine =
    (p buffer : List ℕ) → Slice p → Slice buffer → WithinLayout (meant p) → answer_most ≤ length buffer → FoundBy engine p buffer

-- Result and buffer are those that document 01 gives: every byte but the free ones, and those after the record stay.
abbrev pub EngineSolves : Engine → Type 0
EngineSolves engine =
    (p buffer : List ℕ) → Slice p → Slice buffer → Solves (meant p) buffer (engine.result p buffer) (engine.buffer p buffer)

-- What is read: the fields of the bytes, of several questions the first. What is written: the record of the fields, and every byte after
-- it stays.
pub record ReadsProblem (read : ProblemReader) (p : List ℕ) : Type 0 where
  pub n_is : (read.problem p).n ≡ (problem_of (asking (meant p) 0)).n
  pub m_is : (read.problem p).m ≡ (problem_of (asking (meant p) 0)).m
  pub left_is : (i j : ℕ) → i ≤ m_field (meant p) → j ≤ n_field (meant p) → (read.problem p).left i j ≡ (problem_of (asking (meant p) 0)).left i j
  pub right_is : (i j : ℕ) → i ≤ m_field (meant p) → j ≤ n_field (meant p) → (read.problem p).right i j ≡ (problem_of (asking (meant p) 0)).right i j

abbrev pub ReadsProblems : ProblemReader → Type 0
ReadsProblems read = (p : List ℕ) → Slice p → WithinLayouts (meant p) → ReadsProblem read p

abbrev pub ReadsFields : Reader → Type 0
ReadsFields read =
    (s : List ℕ) → Slice s → (n m : ℕ) → Word n → Word m → answer_refusal s n m ≡ 0 → read.reading s n m ≡ gives (answer_of s n m)

abbrev pub WritesRecord : Writer → Type 0
WritesRecord write =
    (a : Answer) (n m : ℕ) (buffer : List ℕ) → Handed a → Word n → Word m → Slice buffer → writer_refusal a n m (length buffer) ≡ 0
    → write.buffer a n m buffer ≡ written buffer (answer_bytes n a)

-- Every answer written reads back as itself. What the engine wrote does, with the class and span of its result.
pub record ReadBy (engine : Engine) (read : Reader) (p buffer : List ℕ) : Type 0 where
  pub trials : ℕ
  pub size : ℕ
  pub answer : Answer
  pub result_is : engine.result p buffer ≡ answered answer.class answer.span trials size
  pub written_is : engine.buffer p buffer ≡ written buffer (answer_bytes (n_field (meant p)) answer)
  pub reads : read.reading (take size (engine.buffer p buffer)) (n_field (meant p)) (m_field (meant p)) ≡ gives answer

abbrev pub EngineReadsBack : Engine → Reader → Type 0
EngineReadsBack engine read =
    (p buffer : List ℕ) → Slice p → Slice buffer → WithinLayout (meant p) → answer_most ≤ length buffer
    → ReadBy engine read p buffer

-- What the writer wrote does, read with the same n and m.
abbrev pub ReadsBack : Reader → Writer → Type 0
ReadsBack read write =
    (a : Answer) (n m : ℕ) (buffer : List ℕ) → Handed a → Word n → Word m → Slice buffer → write.number a n m buffer ≡ 0
    → read.reading (take (answer_size a.class n m) (write.buffer a n m buffer)) n m ≡ gives a

-- Every answer record read is written again to the same bytes, and every byte after the record stays.
abbrev pub WritesBack : Reader → Writer → Type 0
WritesBack read write =
    (s : List ℕ) → Slice s → (n m : ℕ) → Word n → Word m → (a : Answer) (buffer : List ℕ) → Slice buffer → answer_most ≤ length buffer
    → read.reading s n m ≡ gives a → (write.number a n m buffer ≡ 0) × (write.buffer a n m buffer ≡ written buffer s)

-- ---- demand 3

-- The checker gives no refusal.
abbrev pub Accepts : Checker → List ℕ → List ℕ → Type 0
Accepts check p a = accepts (check p a) ≡ true

-- The checker's verdict is the one that document 01 gives: 14 where the form is right and the answer is not accepted,
-- and an accepted answer's own class and span.
abbrev pub CheckerJudges : Checker → Type 0
CheckerJudges check = (p a : List ℕ) → Slice p → Slice a → Judged (meant p) a (check p a)

-- The checker accepts an answer exactly when it is of the right form and all that document 01 lists for its class holds.
abbrev pub AcceptsExactly : Checker → Type 0
AcceptsExactly check =
    (p a : List ℕ) → Slice p → Slice a → WithinLayout (meant p)
    → Accepts check p a ↔ ((answer_refusal a (n_field (meant p)) (m_field (meant p)) ≡ 0) × Accepted (problem_of (meant p)) (answer_for (meant p) a))

-- So never one whose plan breaks a rule or has another span than its field.
pub record PlanHolds (p a : List ℕ) : Type 0 where
  pub keeps_rules : Feasible (problem_of p) (point_of (answer_for p a).stamps)
  pub s : ℤ
  pub span_is : (answer_for p a).span ≡ fin s
  pub value_is : value (problem_of p) (point_of (answer_for p a).stamps) ≡ whole s

abbrev pub NeverBroken : Checker → Type 0
NeverBroken check =
    (p a : List ℕ) → Slice p → Slice a → Accepts check p a → (answer_for (meant p) a).class ≡ class_optimal → PlanHolds (meant p) a

-- A pick table has as many picks as an answer of its class, none above the highest value there. Some start with a table (document 02, 2.4)
-- makes the checker accept the answer that holds them.
pub record SomeTable (check : Checker) (p : List ℕ) (class : ℕ) (answer_with : ℕ → List ℕ → Answer) : Type 0 where
  pub start : ℕ
  pub start_fits_is : start_fits class start (n_field (meant p)) ≡ true
  pub picks : List ℕ
  pub count : length picks ≡ pick_count class (n_field (meant p)) (m_field (meant p))
  pub none_above : picks_fit (highest_pick class (n_field (meant p)) (m_field (meant p))) picks ≡ true
  pub accepted_with : Accepts check p (answer_bytes (n_field (meant p)) (answer_with start picks))

-- A plan fits the answer record if its span and stamps have the form of class 1.
pub record Fits (n : ℕ) (s : ℤ) (x : Point) : Type 0 where
  pub span : span_fits class_optimal (fin s) ≡ true
  pub stamps : stamps_fit (list_of x (suc n)) ≡ true

-- The answers of each class with a start and a pick table; class 1 with a plan's own span and its stamps.
abbrev pub least_answer : ℕ → ℤ → Point → ℕ → List ℕ → Answer
least_answer n s x start picks = record { class = class_optimal; span = fin s; start = start; stamps = list_of x (suc n); picks = picks }

abbrev pub blank_answer : ℕ → ℕ → List ℕ → Answer
blank_answer class start picks = record { class = class; span = bot; start = start; stamps = []; picks = picks }

-- Let a plan fit the answer record, keep every rule and have a whole span. The checker accepts this plan with some start and
-- pick table exactly when every other plan that keeps the rules and counts, in blanks or whole minutes without limit, has at least as
-- great a span.
abbrev pub LeastExactly : Checker → Type 0
LeastExactly check =
    (p : List ℕ) → Slice p → WithinLayout (meant p) → (x : Point) (s : ℤ) → Fits (n_field (meant p)) s x → Feasible (problem_of (meant p)) x
    → value (problem_of (meant p)) x ≡ whole s
    → SomeTable check p class_optimal (least_answer (n_field (meant p)) s x)
    ↔ ((y : Point) → Feasible (problem_of (meant p)) y → Counts (problem_of (meant p)) y → whole s ≼ value (problem_of (meant p)) y)

-- The checker accepts some start with a pick table for none exactly when no plan that keeps the rules and counts has a span below plus
-- infinity.
abbrev pub NoneExactly : Checker → Type 0
NoneExactly check =
    (p : List ℕ) → Slice p → WithinLayout (meant p)
    → SomeTable check p class_infeasible (blank_answer class_infeasible)
    ↔ ((y : Point) → Feasible (problem_of (meant p)) y → Counts (problem_of (meant p)) y → plus_infinity ≼ value (problem_of (meant p)) y)

-- It accepts some start with a pick table for bottomless exactly when for every whole number some plan that keeps the rules and counts has
-- a span at or under it.
abbrev pub BottomlessExactly : Checker → Type 0
BottomlessExactly check =
    (p : List ℕ) → Slice p → WithinLayout (meant p)
    → SomeTable check p class_unbounded (blank_answer class_unbounded) ↔ ((t : ℤ) → Attainable (problem_of (meant p)) t)

-- Whatever stood in an answer buffer that is long enough, the engine writes an answer there, and the checker accepts
-- that answer for this problem.
pub record OwnAnswer (engine : Engine) (check : Checker) (p buffer : List ℕ) : Type 0 where
  pub class : ℕ
  pub span : Trop
  pub trials : ℕ
  pub size : ℕ
  pub result_is : engine.result p buffer ≡ answered class span trials size
  pub accepted_is : check p (take size (engine.buffer p buffer)) ≡ accepted class span

abbrev pub OwnAnswers : Engine → Checker → Type 0
OwnAnswers engine check =
    (p buffer : List ℕ) → Slice p → Slice buffer → WithinLayout (meant p) → answer_most ≤ length buffer
    → OwnAnswer engine check p buffer

-- ---- several questions

-- Document 02, 2.1: demands 2 and 3 for each question with its kind 1 problem, which can be handed over, is within the layout and means itself:
-- what they say of every such problem holds of it. The answer to question q, counted from 0, in `size` bytes of the engine's buffer from `at` on
-- is one that the engine may give to that problem: class and least span of the theory, by the plans that count (2.4), in at most 24
-- trials of its own (2.2); it reads back as itself; and the checker accepts it.
pub record QuestionAnswered (check : Checker) (read : Reader) (p after : List ℕ) (q at size own : ℕ) : Type 0 where
  pub class : ℕ
  pub span : Trop
  pub answer : Answer
  pub slice : Slice (alone p q)
  pub within : WithinLayout (alone p q)
  pub itself : meant (alone p q) ≡ alone p q
  pub answers : Answers (problem_of (alone p q)) class span own answer
  pub few : own ≤ most_trials
  pub size_is : size ≡ answer_size class (n_field p) (m_field p)
  pub bytes_are : part after at size ≡ answer_bytes (n_field p) answer
  pub reads : read.reading (part after at size) (n_field p) (m_field p) ≡ gives answer
  pub accepted_is : check (alone p q) (part after at size) ≡ accepted class span

-- The answers to the first questions: each starts where the one before ended; the bytes and the trials of all of them.
pub data QuestionsAnswered (check : Checker) (read : Reader) (p after : List ℕ) : ℕ → ℕ → ℕ → Type 0 where
  no_question : QuestionsAnswered check read p after 0 0 0
  one_more :
      {q at size trials own : ℕ} → QuestionsAnswered check read p after q at trials → QuestionAnswered check read p after q at size own
      → QuestionsAnswered check read p after (suc q) (at + size) (trials + own)

-- All of them are answered, and bytes after the last answer stay.
pub record AllAnswered (engine : Engine) (check : Checker) (read : Reader) (p buffer : List ℕ) : Type 0 where
  pub trials : ℕ
  pub size : ℕ
  pub result_is : engine.result p buffer ≡ all_answered (count_field p) trials size
  pub each : QuestionsAnswered check read p (engine.buffer p buffer) (count_field p) size trials
  pub stay : drop size (engine.buffer p buffer) ≡ drop size buffer

-- So it is where a record of kind 3 is not refused and the buffer has 208 bytes for each question.
abbrev pub EachQuestion : Engine → Checker → Reader → Type 0
EachQuestion engine check read =
    (p buffer : List ℕ) → Slice p → Slice buffer → WithinLayouts p → kind_field p ≡ questions_kind → count_field p * answer_most ≤ length buffer
    → AllAnswered engine check read p buffer

-- ---- the demands, whole

pub record Demand1 (engine : Engine) (check : Checker) (readProblem : ProblemReader) (read : Reader) (write : Writer) (span verdict : Program) : Type 0 where
  pub engine_refuses : EngineRefuses engine
  pub checker_refuses : CheckerRefuses check
  pub problem_reader_refuses : ProblemReaderRefuses readProblem
  pub reader_refuses : ReaderRefuses read
  pub writer_refuses : WriterRefuses write
  pub programs_answer : ProgramsAnswer span verdict

pub record Demand2 (engine : Engine) (readProblem : ProblemReader) (read : Reader) (write : Writer) : Type 0 where
  pub least_spans : LeastSpans engine
  pub engine_solves : EngineSolves engine
  pub reads_problems : ReadsProblems readProblem
  pub reads_fields : ReadsFields read
  pub writes_record : WritesRecord write
  pub engine_reads_back : EngineReadsBack engine read
  pub reads_back : ReadsBack read write
  pub writes_back : WritesBack read write

pub record Demand3 (engine : Engine) (check : Checker) : Type 0 where
  pub checker_judges : CheckerJudges check
  pub accepts_exactly : AcceptsExactly check
  pub never_broken : NeverBroken check
  pub least_exactly : LeastExactly check
  pub none_exactly : NoneExactly check
  pub bottomless_exactly : BottomlessExactly check
  pub own_answers : OwnAnswers engine check

-- All three of the same functions, and the second and third for each of several questions.
pub record Demands (engine : Engine) (check : Checker) (readProblem : ProblemReader) (read : Reader) (write : Writer) (span verdict : Program) : Type 0 where
  pub first : Demand1 engine check readProblem read write span verdict
  pub second : Demand2 engine readProblem read write
  pub third : Demand3 engine check
  pub each_question : EachQuestion engine check read
