-- Results as one number: the low byte is the refusal, 0 where there is none, 255 where the reader is lent too few places.
use Rattle.std.specs.Prelude.{ℕ, suc, ◌+◌, ◌*◌, ◌<◌, ◌≤◌, ◌≡◌, List, ◌⊎◌, length, Result, Ok}
use Rattle.definitions.specs.Limits.{highest_n, highest_m, byte_values, short_full, signed_full, most_trials, most_questions}
use Rattle.definitions.specs.Bytes.{put, Outcome, refusal, gives}
use Rattle.definitions.specs.Offset.{trop_of}
use Rattle.definitions.specs.AnswerRecord.{Answer, answer_refusal, answer_bytes, writer_refusal, writer_outcome, written}
use Rattle.definitions.specs.Verdict as Verdicts
use Rattle.definitions.specs.Verdict.{Judged}
use Rattle.definitions.specs.Solved as Results
use Rattle.definitions.specs.Solved.{Solves}
use Rattle.answer_reader.specs.Fields.{Padded, stamps_of, picks_of}
use Rattle.answer_reader.specs.AnswerReading.{head_in}
use Rattle.answer_reader.specs.declared.answer.Head.{Head}
use Rattle.answer_writer.specs.AnswerWriting.{unless_refused}
use Rattle.engine.specs.declared.solve.Answered.{Answered}
use Rattle.engine.specs.declared.solve.Solution.{Solution}
use Rattle.engine.specs.declared.solve.Solution.TheVariants.{One, All}
use Rattle.checker.specs.declared.check.Certified.{Certified}
use Rattle.records.specs.declared.refusal.Refusal.{Refusal}

-- What is not the refusal counts 256 times, the start behind the class 2¹⁶ times, the span 2³² times.
abbrev pub low_byte : ℕ
low_byte = byte_values

abbrev pub low_quarter : ℕ
low_quarter = short_full

abbrev pub low_half : ℕ
low_half = signed_full

-- ---- span_solve

-- The engine's result: 256 × trials where answered, of several questions their sum, else the refusal.
abbrev pub solved_number : Results.Solved → ℕ
solved_number (Results.refused k) = k
solved_number (Results.answered class span trials size) = low_byte * trials
solved_number (Results.all_answered count trials size) = low_byte * trials

-- The engine's result and its buffer, the result as a number.
pub record SolvesAs (p before : List ℕ) (number : ℕ) (after : List ℕ) : Type 0 where
  pub result : Results.Solved
  pub solves : Solves p before result after
  pub number_is : number ≡ solved_number result

-- ---- span_check

-- The number of a class and a span's offset number.
abbrev pub fields_number : ℕ → ℕ → ℕ
fields_number class span = low_byte * class + low_half * span

-- The checker's verdict: class and the span's offset number where accepted, else the refusal.
pub data Numbered : Verdicts.Verdict → ℕ → Type 0 where
  refused : (k : ℕ) → Numbered (Verdicts.refused k) k
  accepted : (class span : ℕ) → Numbered (Verdicts.accepted class (trop_of span)) (fields_number class span)

-- The checker's verdict as a number.
pub record JudgedAs (p a : List ℕ) (number : ℕ) : Type 0 where
  pub verdict : Verdicts.Verdict
  pub judged : Judged p a verdict
  pub numbered : Numbered verdict number

-- ---- sizes, so that the numbers fit 64 bits

-- What is given is below 2³².
pub record Small (r : Result ℕ Refusal) : Type 0 where
  pub small : {k : ℕ} → r ≡ Ok k → k < low_half

-- The trials of an answered result are few.
pub record FewTrials (r : Result Solution Refusal) : Type 0 where
  pub few : {one : Answered} → r ≡ Ok (One one) → one.trials ≤ most_trials
  pub all_few : {count trials size : ℕ} → r ≡ Ok (All count trials size) → trials ≤ most_questions * most_trials

-- Class and span of an accepted answer are small.
pub record SmallFields (r : Result Certified Refusal) : Type 0 where
  pub class_small : {c : Certified} → r ≡ Ok c → c.class < low_byte
  pub span_small : {c : Certified} → r ≡ Ok c → c.span < low_half

-- ---- span_write

-- The writer's result: 256 × the record's size where written, else the refusal.
abbrev pub written_number : Outcome ℕ → ℕ
written_number (refusal k) = k
written_number (gives size) = low_byte * size

-- The writer's result as a number; a refusal leaves the buffer as it was, and else the record stands at its start, every byte
-- after it as it was.
pub record WritesAs (a : Answer) (n m number : ℕ) (before after : List ℕ) : Type 0 where
  pub number_is : number ≡ written_number (writer_outcome a n m (length before))
  pub buffer : after ≡ unless_refused (writer_refusal a n m (length before)) before (written before (answer_bytes n a))

-- Class, the span's offset number and the start, as they are handed over.
abbrev pub head_with : ℕ → ℕ → ℕ → Head
head_with class span start = record { class = class; span = span; start = start }

-- ---- span_read

-- The places that the reader is lent, and its number where they are fewer.
abbrev pub stamp_places : ℕ
stamp_places = suc highest_n

abbrev pub pick_places : ℕ
pick_places = suc highest_m

abbrev pub too_few_places : ℕ
too_few_places = 255

-- The number of class, start and span.
abbrev pub head_number : Head → ℕ
head_number h = low_byte * h.class + low_quarter * h.start + low_half * h.span

-- The reader's result as a number: the refusal, or else that there are too few places, and both as they were; or class, start and
-- span, the stamps in the first 32 places and the picks in the first 64, each with 0 behind them, and what follows as it was.
pub data ReadsAs (s : List ℕ) (n m : ℕ) (stamps-before picks-before : List ℕ) : ℕ → List ℕ → List ℕ → Type 0 where
  turned_away : {k : ℕ} → answer_refusal s n m ≡ suc k → ReadsAs s n m stamps-before picks-before (suc k) stamps-before picks-before
  too_few :
      answer_refusal s n m ≡ 0 → (length stamps-before < stamp_places) ⊎ (length picks-before < pick_places)
      → ReadsAs s n m stamps-before picks-before too_few_places stamps-before picks-before
  read :
      {stamps picks : List ℕ} → answer_refusal s n m ≡ 0 → stamp_places ≤ length stamps-before → pick_places ≤ length picks-before → Padded stamp_places (stamps_of s n) stamps → Padded pick_places (picks_of s n m) picks
      → ReadsAs s n m stamps-before picks-before (head_number (head_in s)) (put stamps-before 0 stamps) (put picks-before 0 picks)

-- Stamps and picks handed out, and the number that goes with them: 255 and the places as they were, where these are too few; or
-- both at the start of the places.
pub data PlacesAs (number : ℕ) (stamps picks stamps-before picks-before : List ℕ) : ℕ → List ℕ → List ℕ → Type 0 where
  too_few :
      (length stamps-before < stamp_places) ⊎ (length picks-before < pick_places)
      → PlacesAs number stamps picks stamps-before picks-before too_few_places stamps-before picks-before
  lent :
      stamp_places ≤ length stamps-before → pick_places ≤ length picks-before
      → PlacesAs number stamps picks stamps-before picks-before number (put stamps-before 0 stamps) (put picks-before 0 picks)
