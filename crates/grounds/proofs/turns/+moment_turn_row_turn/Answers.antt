use Rattle.std.proofs.Common.{sym, ◌∙◌, arith}
use Rattle.grounds.proofs.Turning.{turn_back, turn_left, turn_row, turn_moment}
use Rattle.grounds.proofs.turns.+moment_turn_row_turn.Goals as goal

pub moment_turn-returns-in-Some : goal.moment_turn-returns-in-Some
moment_turn-returns-in-Some t c = turn_back c.requires (rw c.as_slice.ensures.0 at (sym c.place_of.ensures ∙ c.in-Some.is))

pub moment_turn-push-requires : goal.moment_turn-push-requires
moment_turn-push-requires t c = let left = turn_left c.requires (rw c.as_slice.ensures.0 at (sym c.place_of.ensures ∙ c.in-None.is)) in
    (omega arith, omega (arith, left, c.requires.gone, c.requires.going.n_most))

pub moment_turn-overflow_sub-turns : goal.moment_turn-overflow_sub-turns
moment_turn-overflow_sub-turns t c = turn_left c.requires (rw c.as_slice.ensures.0 at (sym c.place_of.ensures ∙ c.in-None.is))

pub moment_turn-row_turn-requires : goal.moment_turn-row_turn-requires
moment_turn-row_turn-requires t c = let none = rw c.as_slice.ensures.0 at (sym c.place_of.ensures ∙ c.in-None.is) in
    (omega (arith, turn_left c.requires none), rw c.push.ensures (turn_row c.requires none))

pub row_turn-moment_turn-requires : goal.row_turn-moment_turn-requires
row_turn-moment_turn-requires t c = (omega arith, turn_moment c.requires c.leads-leads.ensures c.first_latest-l.ensures)
