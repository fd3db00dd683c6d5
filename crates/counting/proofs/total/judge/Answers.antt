use native.Mathlib.Omega.{arith}
use Rattle.counting.proofs.Totals.{judged_away, judged_total, total_above, outside}
use Rattle.counting.proofs.total.judge.Goals as goal

pub returns-then-total-gt-CENSUS_MOST : goal.returns-then-total-gt-CENSUS_MOST
returns-then-total-gt-CENSUS_MOST c = judged_away _ _ _ (total_above _ _ _ c.lead_count.ensures.0 c.saturating_pow-total.ensures c.if-total-gt-CENSUS_MOST.true)

pub returns-then-w-eq0 : goal.returns-then-w-eq0
returns-then-w-eq0 c = judged_away _ _ _ (outside c.then-w-eq0.either)

pub returns : goal.returns
returns c = judged_total _ _ _ c.lead_count.ensures.0 c.saturating_pow-total.ensures c.if-w-eq0.false (omega arith) (omega arith) (omega arith) (omega arith)
