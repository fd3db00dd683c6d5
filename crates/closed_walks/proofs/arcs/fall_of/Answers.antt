use Rattle.std.proofs.Common.{arith}
use Rattle.closed_walks.specs.Arcs.{fall}
use Rattle.closed_walks.proofs.arcs.fall_of.Goals as goal

pub returns : goal.returns
unfolding fall
returns c = (omega arith, omega (arith, c.requires.0.lo c.requires.1, c.requires.2.lo c.requires.3))
