use Rattle.std.proofs.Common.{◌≡◌, ◌≤◌, length}
use Rattle.closed_walks.specs.Arcs.{LiftFilled}
use Rattle.closed_walks.proofs.arcs.fill_run.Given as goal

abbrev pub invariant-loop-l : goal.invariant-loop-l
invariant-loop-l l = (l.l ≤ l.width) × (length l.arcs ≡ length l.initial.arcs) × LiftFilled l.from l.bytes l.at l.l l.up l.initial.arcs l.arcs
