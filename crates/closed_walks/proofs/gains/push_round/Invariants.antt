use Rattle.closed_walks.specs.GainRound.{Pushing}
use Rattle.closed_walks.specs.Order.{past}
use Rattle.closed_walks.proofs.gains.push_round.Given as goal

abbrev pub invariant-loop-j : goal.invariant-loop-j
invariant-loop-j l = Pushing l.arcs l.order.marks.now l.order.width l.initial.values l.initial.done (past l.order.places l.j-index) l.values l.done l.moved
