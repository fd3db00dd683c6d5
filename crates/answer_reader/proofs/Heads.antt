-- What an answer's head says of the bytes, and the other way round.
use Rattle.std.proofs.Common.{◌≡◌, ℕ, List, ap}
use Rattle.definitions.specs.Tropical.{Trop}
use Rattle.definitions.specs.AnswerRecord.{class_field, span_field, start_field}
use Rattle.answer_reader.specs.AnswerReading.{told_by, HeadAt}
use Rattle.answer_reader.specs.declared.answer.Head.{Head}

-- The struct tells what stands in the bytes, exactly when it is theirs.
pub head_told : {s : List ℕ} {h : Head} → HeadAt s h → told_by h ≡ (class_field s, span_field s, start_field s)
head_told a = λ i. (a.class_is i, a.span_is i, a.start_is i)

pub told_head : {s : List ℕ} {h : Head} → told_by h ≡ (class_field s, span_field s, start_field s) → HeadAt s h
told_head e =
    record {
      class_is = ap (λ (x : ℕ × Trop × ℕ). x.0) e;
      span_is = ap (λ (x : ℕ × Trop × ℕ). x.1) e;
      start_is = ap (λ (x : ℕ × Trop × ℕ). x.2) e;
    }
