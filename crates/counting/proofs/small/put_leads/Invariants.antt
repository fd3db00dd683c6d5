use Rattle.counting.proofs.Leads.{Putting}
use Rattle.counting.proofs.small.put_leads.Given as goal

abbrev pub invariant-loop-i : goal.invariant-loop-i
invariant-loop-i l = Putting l.w l.leads l.number l.initial.buffer l.buffer l.rest l.i
