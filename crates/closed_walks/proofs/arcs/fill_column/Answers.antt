use Rattle.std.proofs.Common.{ap, ◌∙◌, arith, length-set}
use Rattle.base.specs.Numbers.{most}
use Rattle.base.proofs.Numbers.{max_most}
use Rattle.closed_walks.proofs.ArcTables.{column_more}
use Rattle.closed_walks.proofs.arcs.fill_column.Goals as goal

pub loop-j-preserved : goal.loop-j-preserved
loop-j-preserved c = (omega arith, simp length-set (omega arith), column_more c.loop-j.invariant.2 (omega arith) (omega arith) (c.max.ensures ∙ max_most _ _ ∙ ap (most _) c.fallen_by.ensures))
