use native.Mathlib.Omega.{arith}
use Rattle.counting.proofs.Leads.{putting_start, putting_turn, putting_end}
use Rattle.counting.proofs.small.put_leads.Goals as goal

pub loop-i-init : goal.loop-i-init
loop-i-init c = putting_start _ _ _ _

pub loop-i-preserved : goal.loop-i-preserved
loop-i-preserved c = putting_turn c.loop-i.invariant (omega arith) c.requires.0 c.lead_field.ensures c.put_word.ensures

pub returns : goal.returns
returns c = putting_end c.loop-i.invariant (omega arith)
