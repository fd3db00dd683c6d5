use Rattle.std.proofs.Common.{◌≡◌, arith}
use Rattle.problem_records.proofs.Leads.{fit_none, fit_more}
use Rattle.problem_records.proofs.reader.leads_fit.Goals as goal

pub loop-i-init : goal.loop-i-init
loop-i-init c = fit_none _ _

pub loop-i-preserved : goal.loop-i-preserved
loop-i-preserved c = fit_more c.args.bytes.now c.args.start c.loop-i.i c.loop-i.invariant c.word_in.ensures.0 c.lead_fits-fit.ensures

pub returns : goal.returns
returns c = let e : c.loop-i.i ≡ c.args.count = omega arith in rw e at c.loop-i.invariant
