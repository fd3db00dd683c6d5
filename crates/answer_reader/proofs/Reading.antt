-- Laws of reading an answer: from the numbers that the code reads to what the definitions say of the bytes.
use Rattle.std.proofs.Common.{◌≡◌, ℕ, List, Ok, Err, sym, ◌∙◌}
use Rattle.definitions.specs.ProblemRecord.{length_field, kind_field, n_field}
use Rattle.definitions.specs.AnswerRecord.{class_field, span_field, start_field, answer_header_refusal, answer_header_judged, answer_header_outcome}
use Rattle.records.specs.declared.refusal.Refusal.{Refusal}
use Rattle.records.specs.Refusals.{number_of}
use Rattle.records.proofs.Refusing.{outcome_ok, outcome_err}
use Rattle.answer_reader.specs.AnswerReading.{told_by, HeadAt, head_of}
use Rattle.answer_reader.specs.declared.answer.Head.{Head}
use Rattle.answer_reader.proofs.Heads.{head_told}

module _ {s : List ℕ} (size n m : ℕ) {length kind own : ℕ} {head : Head} (a : length ≡ length_field s) (b : kind ≡ kind_field s) (c : own ≡ n_field s) (d : HeadAt s head) where
  -- The numbers of the header judged are the header judged.
  judged : answer_header_judged size length kind own head.class head.start n m ≡ answer_header_refusal s size n m
  unfolding answer_header_refusal
  judged = rw (a, b, c, d.class_is, d.start_is)

  pub header_err : (r : Refusal) → number_of r ≡ answer_header_judged size length kind own head.class head.start n m → head_of (Err r) ≡ answer_header_outcome s size n m
  unfolding answer_header_outcome
  header_err r e = outcome_err told_by r (class_field s, span_field s, start_field s) (e ∙ judged)

  pub header_ok : 0 ≡ answer_header_judged size length kind own head.class head.start n m → head_of (Ok head) ≡ answer_header_outcome s size n m
  unfolding answer_header_outcome
  header_ok e = outcome_ok told_by head (class_field s, span_field s, start_field s) (sym (e ∙ judged)) (head_told d)
