use Rattle.duality.specs.Height.{height}
use Rattle.policy_iteration.specs.Tables.{pick_of, cap_limit, highs}
use Rattle.policy_iteration.specs.Rounds.{ValuesIs}
use Rattle.policy_iteration.specs.Rows.{system_in}
use Rattle.policy_iteration.proofs.Steps.{Kept}
use Rattle.policy_iteration.proofs.rows.Rows.iterate.Given as goal

abbrev pub invariant-loop-x : goal.invariant-loop-x
invariant-loop-x l = Kept (system_in l.self l.caps) l.kept × ValuesIs (system_in l.self l.caps) (pick_of l.kept) (highs l.x)

abbrev pub decreases-loop-x : goal.decreases-loop-x
decreases-loop-x l = height (system_in l.self l.caps) cap_limit (pick_of l.kept)
