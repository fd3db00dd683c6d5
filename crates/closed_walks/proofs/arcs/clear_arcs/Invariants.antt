use Rattle.std.proofs.Common.{◌≡◌, ℕ, ◌+◌, ◌*◌, ◌<◌, ◌≤◌, length, get_or}
use Rattle.closed_walks.proofs.arcs.clear_arcs.Given as goal

abbrev pub invariant-loop-j : goal.invariant-loop-j
invariant-loop-j l = (l.j ≤ l.width) × (length l.arcs ≡ 1024) × ((i k : ℕ) → i < l.j → k < l.width → get_or l.arcs (i * 32 + k) 0 ≡ 0)
