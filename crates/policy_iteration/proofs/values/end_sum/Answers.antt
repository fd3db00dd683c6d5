use native.Mathlib.Omega.{arith}
use mathlib.Core.Path.{◌∙◌}
use Rattle.policy_iteration.proofs.Fold.{sum_most, side_ends, most_max}
use Rattle.policy_iteration.proofs.values.end_sum.Goals as goal

pub overflow_add-table : goal.overflow_add-table
overflow_add-table c = let a = c.args in omega (arith, sum_most a.table.now a.x.now c.requires.2 c.requires.3.ranged a.row c.from-first.result)

pub overflow_add-table-2 : goal.overflow_add-table-2
overflow_add-table-2 c = let a = c.args in omega (arith, sum_most a.table.now a.x.now c.requires.2 c.requires.3.ranged a.row c.from-last.result)

pub returns : goal.returns
returns c = let a = c.args in side_ends a.table.now a.row a.x.now a.width c.requires.2 c.requires.3 c.requires.1 a.ends _ c.requires.4 (rw (← c.from-first.ensures, ← c.from-last.ensures) (c.max.ensures ∙ most_max _ _))
