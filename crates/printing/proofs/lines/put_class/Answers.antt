use native.Mathlib.Omega.{arith}
use Rattle.printing.proofs.Printing.{words_least, words_bottomless, words_none, words_other}
use Rattle.definitions.specs.Programs.{text_bottomless, text_none}
use Rattle.printing.proofs.lines.put_class.Goals as goal

pub returns-in-1 : goal.returns-in-1
returns-in-1 c = (words_least _ _ c.put_least.ensures.0 c.in-1.is, omega arith)

pub returns-in-2 : goal.returns-in-2
unfolding text_bottomless
returns-in-2 c = (words_bottomless _ _ c.copy.ensures c.in-2.is, omega arith)

pub returns-in-3 : goal.returns-in-3
unfolding text_none
returns-in-3 c = (words_none _ _ c.copy-in-3.ensures c.in-3.is, omega arith)

pub returns-in-0 : goal.returns-in-0
returns-in-0 c = (words_other _ _ _ _ (omega arith) (omega arith) (omega arith), omega arith)

pub returns-in-0-2 : goal.returns-in-0-2
returns-in-0-2 c = (words_other _ _ _ _ c.in-0.in-0-own.rest.0.0.0.1 c.in-0.in-0-own.rest.0.0.1 c.in-0.in-0-own.rest.0.1, omega arith)
