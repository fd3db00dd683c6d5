use Rattle.std.proofs.Common.{◌≤◌, get_or}
use Rattle.grounds.specs.Rounds.{NoneMet}
use Rattle.grounds.proofs.round.first_planned.Given as goal

abbrev pub invariant-loop-j : goal.invariant-loop-j
invariant-loop-j l = (l.j ≤ l.width) × NoneMet (λ i. get_or l.leads i 0) l.stamps l.j
