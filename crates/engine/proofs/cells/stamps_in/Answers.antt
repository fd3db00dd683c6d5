use native.Mathlib.Omega.{arith}
use lib.ListN.{get_or-eq_default}
use borrow.Author.Rules.{rules}
use Rattle.engine.proofs.cells.stamps_in.Goals as goal

pub returns : goal.returns
returns c = record { size_is = c.map.ensures.items.long; each = λ k h. let w = c.map.ensures.items.at k 0 0 h in search rules; rest = λ k h. get_or-eq_default c.map.result 0 {n = k} (omega (arith, c.map.ensures.items.long)) }
