-- The entries of the code as functions, each with its contract for whatever can be handed over: what the theorems in
-- proofs/Demands.antt ask for. That each can be met is shown in proofs/Inhabited.antt.
use Rattle.std.specs.Prelude.{ℕ, ◌≡◌, List, length, take, Result}
use Rattle.definitions.specs.Limits.{kept_bytes}
use Rattle.definitions.specs.Bytes.{Bytes}
use Rattle.definitions.specs.ProblemRecord.{engine_kinds, meant}
use Rattle.definitions.specs.Verdict.{Judged}
use Rattle.definitions.specs.Solved.{Solves}
use Rattle.definitions.specs.Programs.{ReadFrom, SpanOutput}
use Rattle.definitions.specs.Demands.{Word, Words, Slice}
use Rattle.records.specs.declared.problem.Layout.{Layout}
use Rattle.records.specs.declared.refusal.Refusal.{Refusal}
use Rattle.problem_records.specs.Tables.{ProblemRead}
use Rattle.answer_reader.specs.declared.answer.Head.{Head}
use Rattle.answer_reader.specs.Fields.{fields_of}
use Rattle.answer_reader.specs.AnswerReading.{AnswerRead}
use Rattle.answer_writer.specs.AnswerWriting.{AnswerWritten}
use Rattle.checker.specs.declared.check.Certified.{Certified}
use Rattle.checker.specs.Outcome.{verdict_of}
use Rattle.engine.specs.declared.solve.Solution.{Solution}
use Rattle.engine.specs.Outcome.{solved_of, SolvedAs}

-- `engine::solve::solve`: the result, and the buffer afterwards.
pub record Solve : Type 0 where
  pub result : List ℕ → List ℕ → Result Solution Refusal
  pub buffer : List ℕ → List ℕ → List ℕ
  pub contract : (p before : List ℕ) → Slice p → Slice before → Solves (meant p) before (solved_of (result p before)) (buffer p before)

-- The same with all that the contract says: what is written is what the engine gives.
pub record SolveGiving : Type 0 where
  pub result : List ℕ → List ℕ → Result Solution Refusal
  pub buffer : List ℕ → List ℕ → List ℕ
  pub contract : (p before : List ℕ) → Slice p → Slice before → SolvedAs (meant p) before (result p before) (buffer p before)

-- `checker::check::check`.
pub record Check : Type 0 where
  pub verdict : List ℕ → List ℕ → Result Certified Refusal
  pub contract : (p a : List ℕ) → Slice p → Slice a → Judged (meant p) a (verdict_of (verdict p a))

-- `problem_records::reader::read_problem` as the engine calls it, for one question or several, lent two tables: the header, and the tables
-- afterwards.
pub record ReadProblem (left₀ right₀ : List ℕ) : Type 0 where
  pub header : List ℕ → Result Layout Refusal
  pub left : List ℕ → List ℕ
  pub right : List ℕ → List ℕ
  pub contract : (p : List ℕ) → Slice p → ProblemRead engine_kinds (meant p) left₀ right₀ (header p) (left p) (right p)

-- `answer_reader::answer::read_answer`, lent two arrays: the head, and the arrays afterwards.
pub record ReadAnswer (stamps₀ picks₀ : List ℕ) : Type 0 where
  pub head : List ℕ → ℕ → ℕ → Result Head Refusal
  pub stamps : List ℕ → ℕ → ℕ → List ℕ
  pub picks : List ℕ → ℕ → ℕ → List ℕ
  pub contract : (s : List ℕ) (n m : ℕ) → Slice s → Word n → Word m → AnswerRead s n m (head s n m) stamps₀ (stamps s n m) picks₀ (picks s n m)

-- What is handed to `answer_writer::writer::write_answer` besides the buffer.
pub record WriterFields : Type 0 where
  pub head : Head
  pub stamps : List ℕ
  pub picks : List ℕ
  pub n : ℕ
  pub m : ℕ

-- All of it can be handed over.
pub record WriterFieldsFit (f : WriterFields) : Type 0 where
  pub class : Word f.head.class
  pub span : Word f.head.span
  pub start : Word f.head.start
  pub stamps : Words f.stamps
  pub picks : Words f.picks
  pub n : Word f.n
  pub m : Word f.m

-- `answer_writer::writer::write_answer`: the result, and the buffer afterwards.
pub record WriteAnswer : Type 0 where
  pub result : WriterFields → List ℕ → Result ℕ Refusal
  pub buffer : WriterFields → List ℕ → List ℕ
  pub contract :
      (f : WriterFields) (before : List ℕ) → WriterFieldsFit f → Slice before
      → AnswerWritten (fields_of f.head f.stamps f.picks) f.n f.m (result f before) before (buffer f before)

-- `answer` of a program that is to put out `Output input`, with whatever buffer it is lent: how many bytes of the buffer are put
-- out, and the buffer afterwards.
pub record Answer (Output : List ℕ → List ℕ → Type 0) : Type 0 where
  pub count : List ℕ → ℕ → ℕ
  pub out : List ℕ → ℕ → List ℕ
  pub contract :
      (kept : List ℕ) (size : ℕ) → Bytes kept → length kept ≡ kept_bytes → Word size
      → (input : List ℕ) → ReadFrom kept size input → Output input (take (count kept size) (out kept size))

-- That of the span program, which is to put out the answer to the record that its input means.
abbrev pub SpanAnswer : Type 0
SpanAnswer = Answer (λ input. SpanOutput (meant input))
