use Rattle.reach.specs.Marks.{Flags}
use Rattle.reach.specs.Spreading.{Reaching, unmarked}
use Rattle.reach.proofs.reach.Given as goal

abbrev pub invariant-loop-spread : goal.invariant-loop-spread
invariant-loop-spread l = Flags l.spread.marks × Flags l.spread.done × Reaching l.arcs l.width l.fn.start l.spread.marks l.spread.done

abbrev pub decreases-loop-spread : goal.decreases-loop-spread
decreases-loop-spread l = unmarked l.width l.spread.marks
