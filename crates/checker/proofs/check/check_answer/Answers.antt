use Prim.Native.Nat.{ℕ}
use mathlib.Core.Path.{◌≡◌}
use mathlib.Core.List.{List}
use borrow.Author.Rules.{rules}
use Rattle.std.specs.Prelude.{Result, Ok}
use Rattle.std.proofs.lemmas.Result.{err_from_is_err_and}
use Rattle.definitions.specs.Bytes.{Bytes}
use Rattle.definitions.specs.AnswerRecord.{answer_outcome}
use Rattle.records.specs.declared.refusal.Refusal.{Refusal}
use Rattle.answer_reader.specs.declared.answer.Head.{Head}
use Rattle.answer_reader.specs.AnswerReading.{head_of}
use Rattle.checker.proofs.Verdicts.{answered_refused, answered_certified, answered_uncertified}
use Rattle.checker.proofs.Answers.{HeadRead, head_read, read_means, read_formed}
use Rattle.checker.proofs.check.check_answer.Goals as goal

-- The head of an answer that was read, by whichever call.
head_told : {s : List ℕ} {n m : ℕ} {read : Result Head Refusal} {head : Head} → read ≡ Ok head → head_of read ≡ answer_outcome s n m → HeadRead s n m head
head_told {s} {n} {m} f e = head_read s n m e f

pub returns-in_err-head : goal.returns-in_err-head
returns-in_err-head c = let p = err_from_is_err_and c.from_residual.result c.from_residual.ensures.1 in
    rw (p.1, p.2) (answered_refused _ _ _ _ c.in_err-head.field-0.0 c.in_err-head.was (search rules))

pub certify-requires : goal.certify-requires
certify-requires c = let bytes : Bytes c.args.answer.now = record { byte = λ i. (c.type_inv.answer i).fits } in
    read_formed bytes c.read_answer.ensures (head_told c.in_ok-head.was (search rules))

pub returns-then-certify : goal.returns-then-certify
returns-then-certify c = let bytes : Bytes c.args.answer.now = record { byte = λ i. (c.type_inv.answer i).fits } in
    let right = head_told c.in_ok-head.was (search rules) in
    answered_certified right (read_means bytes c.read_answer.ensures right) (c.certify.ensures _ (read_means bytes c.read_answer.ensures right)) c.if-certify.true

pub returns : goal.returns
returns c = let bytes : Bytes c.args.answer.now = record { byte = λ i. (c.type_inv.answer i).fits } in
    let right = head_told c.in_ok-head.was (search rules) in
    answered_uncertified right (c.certify.ensures _ (read_means bytes c.read_answer.ensures right)) c.if-certify.false
