-- A call of the code has the value that the demands speak of: every function of which their contract holds has this value there. That the
-- demands hold of such functions is in proofs/Demands.antt, and that there are some in proofs/Inhabited.antt.
use Rattle.std.specs.Prelude.{ℕ, ◌≡◌, List}
use Rattle.definitions.specs.ProblemRecord.{meant}
use Rattle.definitions.specs.Verdict.{Verdict, Judged}
use Rattle.definitions.specs.Solved.{Solved, Solves}
use Rattle.definitions.specs.Demands.{Slice, Engine, Checker, EngineSolves, CheckerJudges}
use Rattle.engine.specs.Outcome.{Writes}

-- The verdict of a call on the bytes of a problem and of an answer.
pub record CheckCalled (p a : List ℕ) (verdict : Verdict) : Type 0 where
  pub judged : Judged (meant p) a verdict
  pub every : (check : Checker) → CheckerJudges check → check p a ≡ verdict

-- An engine that gives the answers of this one.
abbrev pub EngineGives : Engine → Type 0
EngineGives engine =
    (p buffer : List ℕ) → Slice p → Slice buffer → Writes (meant p) buffer (engine.result p buffer) (engine.buffer p buffer)

-- Result and buffer of a call on the bytes of a problem and a lent buffer. The result is that of every engine by document 01; the buffer, whose
-- stamps and picks document 01 leaves free, that of every engine that gives the same answers.
pub record SolveCalled (p before : List ℕ) (result : Solved) (after : List ℕ) : Type 0 where
  pub solves : Solves (meant p) before result after
  pub every : (engine : Engine) → EngineSolves engine → engine.result p before ≡ result
  pub every_byte : (engine : Engine) → EngineSolves engine → EngineGives engine → engine.buffer p before ≡ after
