use native.Mathlib.Omega.{arith}
use mathlib.Core.Path.{◌∙◌}
use borrow.Author.Tests.{ne_eqb}
use Rattle.merging.proofs.Plans.{plan_missized, plan_sized}
use Rattle.merging.proofs.plan.plan_fits.Goals as goal

pub returns-then-bytes-count : goal.returns-then-bytes-count
returns-then-bytes-count c = plan_sized c.args.n (record { byte = λ i. (c.type_inv.bytes i).fits }) c.if-bytes-count.true (omega arith) c.stamps_in.ensures c.stamps_fit.ensures

pub returns-else-bytes-count : goal.returns-else-bytes-count
returns-else-bytes-count c = ne_eqb _ _ c.if-bytes-count.false ∙ plan_missized c.args.n c.args.bytes.now c.if-bytes-count.false
