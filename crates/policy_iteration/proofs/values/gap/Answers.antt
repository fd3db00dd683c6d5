use native.Mathlib.Omega.{arith}
use mathlib.Core.Logic.{⊎_elim}
use Rattle.base.proofs.Numbers.{positive}
use Rattle.policy_iteration.proofs.Rounds.{gap_blank_side, gap_blank_left, gap_whole}
use Rattle.policy_iteration.proofs.values.gap.Goals as goal

pub returns-then-left-eq0 : goal.returns-then-left-eq0
returns-then-left-eq0 c = ⊎_elim (λ e. rw e (gap_blank_side _)) (λ e. rw e.1 (gap_blank_left _)) c.if-left-eq0.either

pub returns-else-left-eq0 : goal.returns-else-left-eq0
returns-else-left-eq0 c = let p = positive _ c.if-left-eq0.false.0 in let l = c.requires.1 p in
    gap_whole _ _ p (positive _ c.if-left-eq0.false.1) (omega arith)
