use mathlib.Core.List.{[]}
use Rattle.policy_iteration.specs.Rows.{system_in}
use Rattle.policy_iteration.specs.Tables.{point_of, highs}
use Rattle.merging.proofs.Passing.{StandTo}
use Rattle.merging.proofs.pass.rows_stand.Given as goal

abbrev pub invariant-loop-i : goal.invariant-loop-i
invariant-loop-i l = StandTo (system_in l.rows []) (point_of (highs l.x)) l.i
