use Rattle.grounds.proofs.Reaching.{picks_reached}
use Rattle.grounds.proofs.reached.reached_moments.Goals as goal

pub returns : goal.returns
returns c = λ p held. picks_reached c.requires.0 c.requires.1 held c.requires.2 c.pick_arcs-arcs.ensures (c.start_marks.ensures.1 p _ c.requires.0 held) c.reach.ensures
