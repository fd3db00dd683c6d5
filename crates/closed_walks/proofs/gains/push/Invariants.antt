use Rattle.std.proofs.Common.{◌≡◌, ◌≤◌, length}
use Rattle.closed_walks.specs.GainRound.{Pushed}
use Rattle.closed_walks.proofs.gains.push.Given as goal

abbrev pub invariant-loop-l : goal.invariant-loop-l
invariant-loop-l l = (l.l ≤ 32) × (length l.values ≡ 32) × Pushed l.arcs l.base l.by l.l l.initial.values l.values
