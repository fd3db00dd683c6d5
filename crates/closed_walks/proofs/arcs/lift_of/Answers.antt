use Rattle.std.proofs.Common.{arith}
use Rattle.closed_walks.specs.Arcs.{lift}
use Rattle.closed_walks.proofs.arcs.lift_of.Goals as goal

pub returns : goal.returns
unfolding lift
returns c = (omega arith, omega (arith, c.requires.0.lo c.requires.1))
