-- A problem, what was put out for it, and the verdict's line on both: that they are the two programs' is a premise of the
-- theorems in proofs/Pipe.antt.
use Rattle.std.specs.Prelude.{ℕ, ◌≡◌, List}
use Rattle.definitions.specs.Tropical.{Trop}
use Rattle.definitions.specs.ProblemRecord.{WithinLayout, problem_of, n_field}
use Rattle.definitions.specs.AnswerRecord.{Answer, answer_bytes}
use Rattle.definitions.specs.Verdict.{accepted}
use Rattle.definitions.specs.Solved.{Answers}
use Rattle.definitions.specs.Programs.{verdict_line}

-- What was put out for the problem is the record of an answer to it, and the line says accepted, with the class and span that
-- document 01 gives for the problem.
pub record Piped (p out line : List ℕ) : Type 0 where
  pub within : WithinLayout p
  pub class : ℕ
  pub span : Trop
  pub trials : ℕ
  pub answer : Answer
  pub answers : Answers (problem_of p) class span trials answer
  pub bytes : out ≡ answer_bytes (n_field p) answer
  pub says : line ≡ verdict_line (accepted class span)
