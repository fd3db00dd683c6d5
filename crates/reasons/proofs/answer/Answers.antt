use Rattle.reasons.proofs.Shown.{lines_shown}
use Rattle.reasons.proofs.Long.{reasons_read}
use Rattle.reasons.proofs.answer.Goals as goal

pub returns-in-Ok-clause-lines_are : goal.returns-in-Ok-clause-lines_are
returns-in-Ok-clause-lines_are c = reasons_read _ _ _ (λ input k. lines_shown (rw c.in-Ok.is at (c.input_reasons.ensures input k)) c.put_lines.ensures.lines_are)

pub returns-in-Err-clause-lines_are : goal.returns-in-Err-clause-lines_are
returns-in-Err-clause-lines_are c = reasons_read _ _ _ (λ input k. lines_shown (rw c.in-Err.is at (c.input_reasons.ensures input k)) (rw c.number.ensures at c.put_lines-in-Err.ensures.lines_are))
