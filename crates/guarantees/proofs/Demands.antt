-- The demands of the service description. Whoever asks why an answer is right starts reading here.
--
-- Each theorem holds for all functions of which the contracts of the code hold, for whatever can be handed over (specs/Entries.antt):
--   `solve`, `check`, `read_problem`, `read_answer`, `write_answer`, and `answer` of the two programs.
-- `Contracts` leads from these contracts to the words of the demands, `Inhabited` shows that such functions exist; PROMISES says what
-- is assumed.
use Prim.Native.Nat.{ℕ, ◌≤◌}
use mathlib.Core.Path.{◌≡◌}
use mathlib.Core.List.{List}
use lib.ListN.{length}
use lib.IntN.{ℤ}
use Rattle.definitions.specs.Limits.{answer_most, class_optimal}
use Rattle.definitions.specs.Tropical.{fin}
use Rattle.definitions.specs.Problem.{Optimal}
use Rattle.definitions.specs.ProblemRecord.{WithinLayout, meant, problem_of}
use Rattle.definitions.specs.Solved.{answered}
use Rattle.definitions.specs.Programs.{VerdictOutput}
use Rattle.definitions.specs.Demands.{Slice, Engine, EngineSolves, Demand1, Demand2, Demand3, Demands, EachQuestion}
use Rattle.checker.proofs.Demand3.{checker_demand}
use Rattle.guarantees.specs.Entries.{Solve, Check, ReadProblem, ReadAnswer, WriteAnswer, Answer, SpanAnswer}
use Rattle.guarantees.proofs.Contracts.{engine_of, engine_meets, checker_of, checker_meets, problem_reader_of, problem_reader_refuses, problem_reader_reads, reader_of, reader_refuses, reader_reads, writer_of, writer_meets, program_of, programs_meet}
use Rattle.guarantees.proofs.Engine.{engine_refuses, least_spans, quoted_is_smallest, engine_reads_back, own_answers, each_question}
use Rattle.guarantees.proofs.Records.{reads_back, writes_back}

module _ (solve : Solve) (check : Check) {left₀ right₀ : List ℕ} (readProblem : ReadProblem left₀ right₀) {stamps₀ picks₀ : List ℕ} (readAnswer : ReadAnswer stamps₀ picks₀) (writeAnswer : WriteAnswer) (span : SpanAnswer) (verdict : Answer VerdictOutput) where
  -- Every string of bytes is answered; bytes outside the layouts get the first refusal, and a lent buffer is untouched.
  pub demand_1 : Demand1 (engine_of solve) (checker_of check) (problem_reader_of readProblem) (reader_of readAnswer) (writer_of writeAnswer) (program_of span) (program_of verdict)
  demand_1 = record {
    engine_refuses = engine_refuses (engine_of solve) (engine_meets solve);
    checker_refuses = (checker_demand (checker_of check) (checker_meets check)).refuses;
    problem_reader_refuses = problem_reader_refuses readProblem;
    reader_refuses = reader_refuses readAnswer;
    writer_refuses = (writer_meets writeAnswer).0;
    programs_answer = programs_meet span verdict;
  }

  -- Class and least span are those of the theory, in at most 24 trials; what is written reads back as itself, and what is
  -- read is written again to the same bytes.
  pub demand_2 : Demand2 (engine_of solve) (problem_reader_of readProblem) (reader_of readAnswer) (writer_of writeAnswer)
  demand_2 =
      let writes = writer_meets writeAnswer in
      record {
        least_spans = least_spans (engine_of solve) (engine_meets solve);
        engine_solves = engine_meets solve;
        reads_problems = problem_reader_reads readProblem;
        reads_fields = reader_reads readAnswer;
        writes_record = writes.1;
        engine_reads_back = engine_reads_back (engine_of solve) (engine_meets solve) (reader_of readAnswer) (reader_reads readAnswer);
        reads_back = reads_back (reader_of readAnswer) (writer_of writeAnswer) (reader_reads readAnswer) writes.0 writes.1;
        writes_back = writes_back (reader_of readAnswer) (writer_of writeAnswer) (reader_refuses readAnswer) (reader_reads readAnswer) writes.0 writes.1;
      }

  -- The checker accepts exactly what document 01 lists; some table is accepted exactly when the theory says so; and the
  -- engine's own answer is accepted.
  pub demand_3 : Demand3 (engine_of solve) (checker_of check)
  demand_3 =
      let c = checker_demand (checker_of check) (checker_meets check) in
      record {
        checker_judges = c.judges;
        accepts_exactly = c.accepts_exactly;
        never_broken = c.never_broken;
        least_exactly = c.least_exactly;
        none_exactly = c.none_exactly;
        bottomless_exactly = c.bottomless_exactly;
        own_answers = own_answers (engine_of solve) (engine_meets solve) (checker_of check) (checker_meets check);
      }

  -- Several questions: the second and third demand hold for each with its kind 1 problem, by the checker's own call on its part of the
  -- buffer.
  pub questions : EachQuestion (engine_of solve) (checker_of check) (reader_of readAnswer)
  questions = each_question (engine_of solve) (engine_meets solve) (checker_of check) (checker_meets check) (reader_of readAnswer) (reader_reads readAnswer)

  pub demands : Demands (engine_of solve) (checker_of check) (problem_reader_of readProblem) (reader_of readAnswer) (writer_of writeAnswer) (program_of span) (program_of verdict)
  demands = record { first = demand_1; second = demand_2; third = demand_3; each_question = questions }

-- The release note: a quoted span is the smallest there is. Where the engine answers least with span s, some plan that keeps the rules and
-- has somebody of the group that the span starts from has span s, and every such plan, in blanks or whole minutes without limit, has at least
-- that (document 02, 2.4).
pub quoted_span_is_the_smallest :
    (engine : Engine) → EngineSolves engine → (p buffer : List ℕ) → Slice p → Slice buffer → WithinLayout (meant p) → answer_most ≤ length buffer
    → (s : ℤ) (trials size : ℕ) → engine.result p buffer ≡ answered class_optimal (fin s) trials size → Optimal (problem_of (meant p)) s
quoted_span_is_the_smallest = quoted_is_smallest
