use Rattle.std.proofs.Common.{rules}
use Rattle.lent_desk.proofs.Calls.{held_as}
use Rattle.lent_desk.proofs.entries.held_at.Goals as goal

pub returns : goal.returns
returns c = held_as _ _ _ c.requires.1 (λ i p k. search rules) c.map.ensures.cases
