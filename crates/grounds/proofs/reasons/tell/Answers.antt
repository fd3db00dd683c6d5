use Rattle.grounds.proofs.Telling.{certified_binds, tells_none, tells_least}
use Rattle.grounds.proofs.reasons.tell.Goals as goal

pub returns-then-head-eq-INFEASIBLE : goal.returns-then-head-eq-INFEASIBLE
returns-then-head-eq-INFEASIBLE c = λ p a h. tells_none h (c.reached_moments-marks.ensures p h.held) c.if-head-eq-INFEASIBLE.true c.picked_rules-rules.ensures

pub binding_round-requires : goal.binding_round-requires
binding_round-requires c = let h = c.requires.certifies in
    certified_binds h (c.reached_moments-marks.ensures _ h.held) c.if-head-eq-INFEASIBLE.false

pub returns : goal.returns
returns c = λ p a h. tells_least h (c.reached_moments-marks.ensures p h.held) c.if-head-eq-INFEASIBLE.false c.picked_rules-rules.ensures c.binding_round.ensures
