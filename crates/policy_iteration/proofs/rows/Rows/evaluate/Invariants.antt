use Rattle.policy_iteration.specs.Tables.{pick_of, highs}
use Rattle.policy_iteration.specs.Rows.{system_in}
use Rattle.policy_iteration.specs.Rounds.{Level}
use Rattle.policy_iteration.proofs.rows.Rows.evaluate.Given as goal

abbrev pub invariant-loop-turn : goal.invariant-loop-turn
invariant-loop-turn l = Level (system_in l.self l.caps) (pick_of l.picks) l._turn (highs l.x)
