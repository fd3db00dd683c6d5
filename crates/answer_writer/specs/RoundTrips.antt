-- What an answer written and read back is, and what an answer read and written back is.
use Rattle.std.specs.Prelude.{ℕ, ◌≡◌, List, [], ◌∷◌, length, Result}
use Rattle.definitions.specs.Limits.{stride, table_rows}
use Rattle.definitions.specs.Bytes.{first, or_else, outcome}
use Rattle.definitions.specs.AnswerRecord.{answer_bytes, answer_refusal, room_refused, writer_refusal, written}
use Rattle.answer_reader.specs.Fields.{fields_of, Padded}
use Rattle.answer_reader.specs.AnswerReading.{told_by, head_of}
use Rattle.answer_writer.specs.AnswerWriting.{written_of, unless_refused}
use Rattle.answer_reader.specs.declared.answer.Head.{Head}
use Rattle.records.specs.declared.refusal.Refusal.{Refusal}

-- The first refusal of the writer for these fields, 0 where there is none.
abbrev pub fields_refusal : Head → List ℕ → List ℕ → ℕ → ℕ → ℕ → ℕ
fields_refusal head stamps picks n m room = writer_refusal (fields_of head stamps picks) n m room

-- Written and read back: the writer's refusal with all three left as they were, or the same class, span, start,
-- stamps and picks, with the record in the buffer.
pub record WrittenThenRead (head : Head) (stamps picks : List ℕ) (n m : ℕ) (r : Result Head Refusal) (before after stamps-before stamps_back picks-before picks_back : List ℕ) : Type 0 where
  pub answered : head_of r ≡ outcome (fields_refusal head stamps picks n m (length before)) (told_by head)
  pub buffer : after ≡ unless_refused (fields_refusal head stamps picks n m (length before)) before (written before (answer_bytes n (fields_of head stamps picks)))
  pub kept : (fields_refusal head stamps picks n m (length before) ≡ 0 → ⊥) → (stamps_back ≡ stamps-before) × (picks_back ≡ picks-before)
  pub stamps_same : fields_refusal head stamps picks n m (length before) ≡ 0 → Padded stride stamps stamps_back
  pub picks_same : fields_refusal head stamps picks n m (length before) ≡ 0 → Padded table_rows picks picks_back

-- The reader's first refusal, then 7 where the buffer is too short.
unfoldable pub back_refusal : List ℕ → ℕ → ℕ → ℕ → ℕ
back_refusal s n m room = or_else (answer_refusal s n m) (first (room_refused room ∷ []))

-- Read and written back: the refusal with the buffer as it was, or the same bytes.
pub record ReadThenWritten (s : List ℕ) (n m : ℕ) (r : Result ℕ Refusal) (before after : List ℕ) : Type 0 where
  pub answered : written_of r ≡ outcome (back_refusal s n m (length before)) (length s)
  pub buffer : after ≡ unless_refused (back_refusal s n m (length before)) before (written before s)
