use native.Mathlib.Omega.{arith}
use Rattle.policy_iteration.proofs.Places.{ends_one, ends_two}
use Rattle.policy_iteration.proofs.ends.tested.Goals as goal

pub returns-then-bits-low : goal.returns-then-bits-low
returns-then-bits-low c = ends_one c.args.bits c.args.ends c.requires.0 c.requires.1 (rw (← c.from.ensures) (omega arith))

pub returns-then-bits-low-3 : goal.returns-then-bits-low-3
returns-then-bits-low-3 c = ends_two c.args.bits c.args.ends c.requires.0 c.requires.1 (rw (← c.from.ensures, ← c.from-2.ensures) (omega arith)) c.if-ends.false
