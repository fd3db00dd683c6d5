use Rattle.definitions.proofs.Inputs.{verdict_read}
use Rattle.verdict.proofs.Lines.{line_shown}
use Rattle.verdict.proofs.answer.Goals as goal

pub returns : goal.returns
returns c = (c.put_line.ensures.0, verdict_read _ _ _ (λ input k. line_shown (c.judge_input.ensures input k) c.put_line.ensures.1))
