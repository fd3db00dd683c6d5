use Prim.Native.Nat.{◌≤◌}
use mathlib.Core.Path.{◌≡◌}
use lib.ListN.{get_or}
use Rattle.definitions.specs.Offset.{trop_of}
use Rattle.grounds.specs.Latest.{sum_at, FirstLatest}
use Rattle.grounds.proofs.latest.first_latest.Given as goal

abbrev pub invariant-loop-l : goal.invariant-loop-l
invariant-loop-l l = (1 ≤ l.l) × (l.l ≤ l.width) × FirstLatest (λ k. get_or l.row k 0) l.stamps l.l l.at × (trop_of l.best ≡ sum_at (λ k. get_or l.row k 0) l.stamps l.at)
