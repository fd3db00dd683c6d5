use native.Mathlib.Omega.{arith}
use Rattle.printing.proofs.Appending.{append_fits, append_none}
use Rattle.printing.proofs.text.append.Goals as goal

pub returns-then-buf-at : goal.returns-then-buf-at
returns-then-buf-at c = append_none _ _ _ (omega arith)

pub returns : goal.returns
returns c = append_fits c.copy.ensures (omega arith)
