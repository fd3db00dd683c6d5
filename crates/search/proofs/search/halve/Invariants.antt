use Prim.Native.Nat.{◌-◌}
use Rattle.search.specs.Trials.{Halving}
use Rattle.search.proofs.search.halve.Given as goal

abbrev pub invariant-halving : goal.invariant-halving
invariant-halving l = Halving l.second l.bracket.low l.bracket.high l.trials

abbrev pub decreases-halving : goal.decreases-halving
decreases-halving l = l.bracket.high - l.bracket.low
