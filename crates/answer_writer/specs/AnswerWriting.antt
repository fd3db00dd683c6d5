-- What writing an answer answers: the record's size, or the number of the first refusal that applies; and the buffer.
use Rattle.std.specs.Prelude.{ℕ, zero, suc, ◌≡◌, List, ◌++◌, length, Result}
use Rattle.definitions.specs.Limits.{length_bytes, short_bytes, signed_bytes, answer_kind}
use Rattle.definitions.specs.Bytes.{le, fields, Outcome}
use Rattle.definitions.specs.Offset.{off}
use Rattle.definitions.specs.AnswerRecord.{Answer, answer_bytes, writer_refusal, writer_outcome, written}
use Rattle.answer_reader.specs.declared.answer.Head.{Head}
use Rattle.records.specs.declared.refusal.Refusal.{Refusal}
use Rattle.records.specs.Refusals.{outcome_by}

-- Document 01's result for each case: the record's size, or the number of the refusal.
abbrev pub written_of : Result ℕ Refusal → Outcome ℕ
written_of r = outcome_by (λ size. size) r

-- A refusal leaves the buffer as it was.
unfoldable pub unless_refused : ℕ → List ℕ → List ℕ → List ℕ
unless_refused zero before after = after
unless_refused (suc k) before after = before

-- What the writer gives back: the first refusal and the buffer as it was, or the record's size, with the record in the
-- buffer and every byte after it as it was.
pub record AnswerWritten (a : Answer) (n m : ℕ) (r : Result ℕ Refusal) (before after : List ℕ) : Type 0 where
  pub answered : written_of r ≡ writer_outcome a n m (length before)
  pub buffer : after ≡ unless_refused (writer_refusal a n m (length before)) before (written before (answer_bytes n a))

-- The header's bytes: the length field, kind, n, class, the span's field, and the start.
unfoldable pub header_bytes : ℕ → ℕ → Head → List ℕ
header_bytes length n head =
    le length_bytes length
    ++ (le short_bytes answer_kind ++ (le short_bytes n ++ (le short_bytes head.class ++ (le signed_bytes (off head.span) ++ le short_bytes head.start))))

-- The record's bytes, stamps as 4-byte fields.
unfoldable pub record_bytes : ℕ → ℕ → Head → List ℕ → List ℕ → List ℕ
record_bytes length n head stamps picks = header_bytes length n head ++ (fields signed_bytes stamps ++ fields short_bytes picks)
