use native.Mathlib.Omega.{arith}
use Rattle.definitions.proofs.Marks.{word_joined}
use Rattle.reach.proofs.compare.eight_at.Goals as goal

pub returns : goal.returns
returns c = omega (arith, word_joined 4 4 c.args.marks.now c.args.at)
