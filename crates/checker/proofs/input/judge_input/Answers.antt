use borrow.Author.Rules.{rules}
use Rattle.checker.proofs.input.judge_input.Goals as goal

-- src/input.rt:92:5
pub judge_kept-requires : goal.judge_kept-requires
judge_kept-requires c = search rules

-- src/input.rt:89:1
pub returns : goal.returns
returns c = search rules
