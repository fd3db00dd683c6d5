-- What reading an answer answers: class, span and start, or the number of the first refusal that applies.
use Rattle.std.specs.Prelude.{ℕ, ◌≡◌, List, Result}
use Rattle.definitions.specs.Limits.{signed_bytes, span_place, stride, table_rows}
use Rattle.definitions.specs.Tropical.{Trop}
use Rattle.definitions.specs.Bytes.{num_at, Outcome}
use Rattle.definitions.specs.Offset.{trop_of, off}
use Rattle.definitions.specs.AnswerRecord.{class_field, span_field, start_field, answer_refusal, answer_outcome}
use Rattle.answer_reader.specs.Fields.{Padded, stamps_of, picks_of}
use Rattle.answer_reader.specs.declared.answer.Head.{Head}
use Rattle.records.specs.declared.refusal.Refusal.{Refusal}
use Rattle.records.specs.Refusals.{outcome_by}

-- What the code's struct tells.
abbrev pub told_by : Head → ℕ × Trop × ℕ
told_by h = (h.class, trop_of h.span, h.start)

-- Document 01's result for each case: class, span and start, or the number of the refusal.
abbrev pub head_of : Result Head Refusal → Outcome (ℕ × Trop × ℕ)
head_of r = outcome_by told_by r

-- The struct is that of an answer's first bytes.
pub record HeadAt (s : List ℕ) (h : Head) : Type 0 where
  pub class_is : h.class ≡ class_field s
  pub span_is : trop_of h.span ≡ span_field s
  pub start_is : h.start ≡ start_field s

-- The span's offset number.
abbrev pub span_number : List ℕ → ℕ
span_number s = off (num_at signed_bytes s span_place)

-- The struct that the reader gives for an answer's first bytes.
abbrev pub head_in : List ℕ → Head
head_in s = record { class = class_field s; span = span_number s; start = start_field s }

-- What the reader gives back: the first refusal and both arrays as they were, or class, span and start, with the stamps
-- in one array and the picks in the other, 0 behind them.
pub record AnswerRead (s : List ℕ) (n m : ℕ) (r : Result Head Refusal) (stamps-before stamps picks-before picks : List ℕ) : Type 0 where
  pub answered : head_of r ≡ answer_outcome s n m
  pub kept : (answer_refusal s n m ≡ 0 → ⊥) → (stamps ≡ stamps-before) × (picks ≡ picks-before)
  pub stamps_read : answer_refusal s n m ≡ 0 → Padded stride (stamps_of s n) stamps
  pub picks_read : answer_refusal s n m ≡ 0 → Padded table_rows (picks_of s n m) picks
