use Rattle.merging.proofs.Outcomes.{judged_room, judged_first, judged_second, judged_none}
use Rattle.merging.proofs.merge.judge_plans.Goals.{then-not-plan_fits-via-then-not-plan_fits, then-not-plan_fits-via-else-not-plan_fits+then-not-plan_fits-2}
use Rattle.merging.proofs.merge.judge_plans.Goals as goal

pub returns-then-room-lt-MERGED_MOST : goal.returns-then-room-lt-MERGED_MOST
returns-then-room-lt-MERGED_MOST c = judged_room _ _ _ _ c.if-room-lt-MERGED_MOST.true

pub returns-then-not-plan_fits : goal.returns-then-not-plan_fits
returns-then-not-plan_fits c = elim c.then-not-plan_fits.branch [
  | then-not-plan_fits-via-then-not-plan_fits w ↦ judged_first _ _ _ _ c.if-room-lt-MERGED_MOST.false c.plan_fits.ensures w.if-not-plan_fits.true
  | then-not-plan_fits-via-else-not-plan_fits+then-not-plan_fits-2 w ↦ judged_second _ _ _ _ c.if-room-lt-MERGED_MOST.false c.plan_fits.ensures w.if-not-plan_fits.false w.plan_fits-else-not-plan_fits.ensures w.if-not-plan_fits-2.true
]

pub returns : goal.returns
returns c = judged_none _ _ _ _ c.if-room-lt-MERGED_MOST.false c.plan_fits.ensures c.if-not-plan_fits.false c.plan_fits-else-not-plan_fits.ensures c.if-not-plan_fits-2.false
