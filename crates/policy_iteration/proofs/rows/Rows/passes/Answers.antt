use mathlib.Core.Logic.{inl, inr}
use Rattle.policy_iteration.proofs.Steps.{passing_second, turned_none, turned_once, turned_twice}
use Rattle.policy_iteration.proofs.rows.Rows.passes.Goals.{then-failed-eq0-via-then-failed-eq0, then-failed-eq0-via-else-failed-eq0+then-x-eq0-2, then-failed-eq0-via-else-failed-eq0+else-x-eq0-2+then-no_exit}
use Rattle.policy_iteration.proofs.rows.Rows.passes.Goals as goal

pub returns-then-x-eq0 : goal.returns-then-x-eq0
returns-then-x-eq0 c = turned_none c.requires c.if-x-eq0.true

pub returns-then-failed-eq0 : goal.returns-then-failed-eq0
returns-then-failed-eq0 c = let once = turned_once c.requires c.if-x-eq0.false c.pass-failed.ensures in elim c.then-failed-eq0.branch [
  | then-failed-eq0-via-then-failed-eq0 w ↦ once (inl w.if-failed-eq0.true)
  | then-failed-eq0-via-else-failed-eq0+then-x-eq0-2 w ↦ once (inr (inl w.if-x-eq0-2.true))
  | then-failed-eq0-via-else-failed-eq0+else-x-eq0-2+then-no_exit w ↦ once (inr (inr (w.no_exit.ensures.yes w.if-no_exit.true)))
]

pub pass-requires : goal.pass-requires
pass-requires c = passing_second c.requires c.if-x-eq0.false c.pass-failed.ensures

pub returns : goal.returns
returns c = turned_twice c.requires c.if-x-eq0.false c.pass-failed.ensures c.if-failed-eq0.false c.if-x-eq0-2.false (c.no_exit.ensures.no c.if-no_exit.false) c.pass.ensures
