use Rattle.grounds.proofs.Reading.{reasoned_bottomless}
use Rattle.grounds.proofs.reasons.accepted_reasons.Goals as goal

pub returns-then-class-eq-UNBOUNDED : goal.returns-then-class-eq-UNBOUNDED
returns-then-class-eq-UNBOUNDED c = reasoned_bottomless c.requires c.if-class-eq-UNBOUNDED.true
