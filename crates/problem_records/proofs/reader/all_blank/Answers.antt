use Rattle.std.proofs.Common.{◌≡◌, arith}
use Rattle.problem_records.proofs.Leads.{blank_none, blank_more}
use Rattle.problem_records.proofs.reader.all_blank.Goals as goal

pub loop-i-init : goal.loop-i-init
loop-i-init c = blank_none _ _

pub loop-i-preserved : goal.loop-i-preserved
loop-i-preserved c = blank_more c.args.bytes.now c.args.start c.loop-i.i c.loop-i.invariant c.word_in.ensures.0

pub returns : goal.returns
returns c = let e : c.loop-i.i ≡ c.args.count = omega arith in rw e at c.loop-i.invariant
