use Rattle.engine.proofs.Outcomes.{layout_read}
use Rattle.engine.proofs.solve.read_layout.Goals as goal

pub returns : goal.returns
returns c = layout_read c.args.problem.now (record { byte = λ i. (c.type_inv.problem i).fits }) c.read_problem.ensures
