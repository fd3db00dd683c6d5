use Rattle.engine.specs.Packing.{PackedCells}
use Rattle.engine.proofs.cells.pack.Given as goal

abbrev pub invariant-loop-j : goal.invariant-loop-j
invariant-loop-j l = PackedCells l.stamps l.picks l.j l.out
