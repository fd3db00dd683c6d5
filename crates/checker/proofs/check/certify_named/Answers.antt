use Rattle.std.proofs.Common.{arith}
use Rattle.reach.proofs.Marks.{anchored_and_marked}
use Rattle.checker.proofs.Acceptance.{unbounded_started, named_not, named_so}
use Rattle.checker.proofs.check.certify_named.Goals as goal

pub anchor_and-requires : goal.anchor_and-requires
anchor_and-requires c = omega (arith, c.requires.1, c.args.rows.now.laid.n_most)

pub certify_unbounded-requires : goal.certify_unbounded-requires
certify_unbounded-requires c = (c.requires.0, c.anchor_and.ensures.flags)

pub returns-then-in_second : goal.returns-then-in_second
returns-then-in_second c = named_so c.in_second.ensures c.if-in_second.true
    (unbounded_started (anchored_and_marked c.anchor_and.ensures (omega (arith, c.requires.1))) c.certify_unbounded.ensures)

pub returns-else-in_second : goal.returns-else-in_second
returns-else-in_second c = rw c.if-in_second.false (named_not c.in_second.ensures c.if-in_second.false)
