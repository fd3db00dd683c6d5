use mathlib.Core.Path.{◌≡◌}
use Rattle.base.specs.Filled.{Filled}
use Rattle.engine.specs.Packing.{pick_at}
use Rattle.engine.proofs.cells.picks_in.Given as goal

abbrev pub invariant-loop-k : goal.invariant-loop-k
invariant-loop-k l = Filled (λ i v. v ≡ pick_at l.cells i) 64 l.k l.out
