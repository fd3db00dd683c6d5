use Rattle.policy_iteration.specs.Rounds.{PickedSums, PickedLefts}
use Rattle.policy_iteration.proofs.rows.Rows.picked_rows.Given as goal

abbrev pub invariant-loop-j : goal.invariant-loop-j
invariant-loop-j l = PickedSums l.self.right.now l.caps l.picks l.x l.self.width l.self.count l.j l.sums × PickedLefts l.self.left.now l.picks l.self.count l.j l.lefts
