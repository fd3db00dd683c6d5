-- A moment with so many turns left calls its row with one fewer, and a row calls its moment with as many, so that the measures are twice the
-- turns left, and one more for a row.
use Rattle.std.proofs.Common.{◌+◌}
use Rattle.grounds.proofs.turns.+moment_turn_row_turn.Given as goal

abbrev pub decreases-moment_turn : goal.decreases-moment_turn
decreases-moment_turn l = l.turns + l.turns

abbrev pub decreases-row_turn : goal.decreases-row_turn
decreases-row_turn l = l.turns + l.turns + 1
