use Rattle.checker.proofs.LongInputs.{long_answer, long_answer_refused}
use Rattle.checker.proofs.input.judge_long_answer.Goals as goal

pub unwrap_err-requires : goal.unwrap_err-requires
unwrap_err-requires c = long_answer_refused _ _ _ _ _ c.requires.0 c.requires.1 c.requires.2 c.read_answer_header.ensures

pub returns : goal.returns
returns c = long_answer _ _ _ _ c.read_answer_header.ensures c.unwrap_err.ensures
