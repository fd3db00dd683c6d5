use mathlib.Core.Path.{refl, sym}
use lib.Seq.{length-take-le}
use native.Mathlib.Omega.{arith}
use Rattle.counting.proofs.Totals.{leads_few}
use Rattle.counting.proofs.Posing.{headed_start, made}
use Rattle.counting.proofs.Tallies.{tallied_none, tallied_more, tallied_all}
use Rattle.counting.proofs.census.tally_all.Goals as goal

pub put_head-requires : goal.put_head-requires
put_head-requires c = let few = leads_few _ _ _ c.requires.0 in (omega arith, omega arith, omega (arith, few))

pub loop-number-init : goal.loop-number-init
loop-number-init c = (headed_start _ _ _ refl c.put_head.ensures, let h = c.default-tally.ensures in tallied_none _ _ _ h.0 h.1.0 h.1.1.0 h.1.1.1)

pub put_leads-requires : goal.put_leads-requires
put_leads-requires c = let few = leads_few _ _ _ c.requires.0 in (omega (arith, few, c.loop-number.invariant.0.size_is), c.requires.0.w_most)

pub slice_bounds-problem-end : goal.slice_bounds-problem-end
slice_bounds-problem-end c = let d = made c.loop-number.number c.requires.0 c.lead_count-leads.ensures.0 c.loop-number.invariant.0 c.put_leads.ensures in omega (arith, d.few, d.headed.size_is)

pub slice_bounds-counted_as-end : goal.slice_bounds-counted_as-end
slice_bounds-counted_as-end c = let d = made c.loop-number.number c.requires.0 c.lead_count-leads.ensures.0 c.loop-number.invariant.0 c.put_leads.ensures in sym (length-take-le _ _ (omega (arith, d.few, d.headed.size_is)))

pub counted_as-requires : goal.counted_as-requires
counted_as-requires c = let d = made c.loop-number.number c.requires.0 c.lead_count-leads.ensures.0 c.loop-number.invariant.0 c.put_leads.ensures in rw d.here d.posed

pub loop-number-preserved : goal.loop-number-preserved
loop-number-preserved c = let d = made c.loop-number.number c.requires.0 c.lead_count-leads.ensures.0 c.loop-number.invariant.0 c.put_leads.ensures in
    (d.headed, tallied_more c.loop-number.invariant.1 (rw d.here at c.counted_as.ensures) c.add.ensures)

pub returns : goal.returns
returns c = tallied_all c.loop-number.invariant.1 (omega arith)
