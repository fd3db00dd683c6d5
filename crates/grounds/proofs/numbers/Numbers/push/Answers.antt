use Rattle.grounds.proofs.Numbering.{one_placed}
use Rattle.grounds.proofs.numbers.Numbers.push.Goals as goal

pub invariant_of-self : goal.invariant_of-self
invariant_of-self g c = one_placed g.row.N c.self.inside.count c.args.number c.self.inside.places c.self.invariant (rw (← c.self.view_is) at c.requires)
