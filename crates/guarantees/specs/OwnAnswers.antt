-- What the checker and the reader say of the engine's own answer. Demands 2 and 3.
use Rattle.std.specs.Prelude.{ℕ, suc, ◌≡◌, List, length, get_or, take}
use Rattle.definitions.specs.Limits.{refused_kind}
use Rattle.definitions.specs.Tropical.{Trop, bot}
use Rattle.definitions.specs.Bytes.{Outcome, refusal, gives}
use Rattle.definitions.specs.Offset.{trop_of}
use Rattle.definitions.specs.ProblemRecord.{n_field, problem_of}
use Rattle.definitions.specs.AnswerRecord.{Answer, answer_bytes, written}
use Rattle.definitions.specs.Verdict as Verdicts
use Rattle.definitions.specs.Verdict.{Judged}
use Rattle.definitions.specs.Solved.{Answers, Solves, engine_refusal, answered, all_answered}

-- The engine's refusal, and the buffer as lent; or the checker's verdict on the bytes that the engine wrote: accepted, with the
-- class and span of the engine's result. A record of several questions, which the engine answers, is no problem for the checker.
pub data OwnVerdict (p before : List ℕ) : Verdicts.Verdict → List ℕ → Type 0 where
  turned_away : {k : ℕ} → engine_refusal p (length before) ≡ suc k → OwnVerdict p before (Verdicts.refused (suc k)) before
  own :
      {class : ℕ} {span : Trop} {trials size : ℕ} {after : List ℕ} → engine_refusal p (length before) ≡ 0
      → Solves p before (answered class span trials size) after → Judged p (take size after) (Verdicts.accepted class span)
      → OwnVerdict p before (Verdicts.accepted class span) after
  several :
      {count trials size : ℕ} {after : List ℕ} → Solves p before (all_answered count trials size) after
      → OwnVerdict p before (Verdicts.refused refused_kind) after

-- Two arrays hold an answer's stamps, by their offset numbers, and its picks; behind both there is 0.
pub record HeldIn (a : Answer) (stamps picks : List ℕ) : Type 0 where
  pub stamps_are : (j : ℕ) → trop_of (get_or stamps j 0) ≡ get_or a.stamps j bot
  pub picks_are : (j : ℕ) → get_or picks j 0 ≡ get_or a.picks j 0

-- The engine's refusal, and the buffer and both arrays as lent; or what the reader gives of the bytes that the engine wrote: class,
-- span, start, stamps and picks of an answer that the engine may give, whose record is what was written.
pub data OwnReading (p before stamps-before picks-before : List ℕ) : Outcome (ℕ × Trop × ℕ) → List ℕ → List ℕ → List ℕ → Type 0 where
  turned_away :
      {k : ℕ} → engine_refusal p (length before) ≡ suc k
      → OwnReading p before stamps-before picks-before (refusal (suc k)) before stamps-before picks-before
  own :
      {class : ℕ} {span : Trop} {trials : ℕ} {stamps picks : List ℕ} (a : Answer) → engine_refusal p (length before) ≡ 0
      → Answers (problem_of p) class span trials a → HeldIn a stamps picks
      → OwnReading p before stamps-before picks-before (gives (class, span, a.start)) (written before (answer_bytes (n_field p) a)) stamps picks
  several :
      {count trials size : ℕ} {after : List ℕ} → Solves p before (all_answered count trials size) after
      → OwnReading p before stamps-before picks-before (refusal refused_kind) after stamps-before picks-before
