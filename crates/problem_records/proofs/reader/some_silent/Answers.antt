use Rattle.std.proofs.Common.{◌≡◌, arith, sym}
use Rattle.problem_records.proofs.Leads.{speaking_none, speaking_more, speaking_not, speaking_inside}
use Rattle.problem_records.proofs.reader.some_silent.Goals as goal

pub loop-i-init : goal.loop-i-init
loop-i-init c = speaking_none _ _ _

pub all_blank-requires : goal.all_blank-requires
all_blank-requires c = omega (arith, speaking_inside c.args.bytes.now c.args.start c.args.n c.args.m c.loop-i.i c.loop-i-test.true c.requires.1)

pub returns-then-all_blank : goal.returns-then-all_blank
returns-then-all_blank c = speaking_not c.args.bytes.now c.args.start c.args.n c.args.m c.loop-i.i c.loop-i-test.true (omega arith) c.all_blank.ensures c.if-all_blank.true

pub loop-i-preserved : goal.loop-i-preserved
loop-i-preserved c = speaking_more c.args.bytes.now c.args.start c.args.n c.loop-i.i c.loop-i.invariant (omega arith) c.all_blank.ensures c.if-all_blank.false

pub returns : goal.returns
returns c = let e : c.loop-i.i ≡ c.args.m = omega arith in rw e at (sym c.loop-i.invariant)
