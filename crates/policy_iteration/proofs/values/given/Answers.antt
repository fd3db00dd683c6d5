use mathlib.Core.Logic.{⊎_elim}
use Rattle.base.proofs.Numbers.{positive}
use Rattle.policy_iteration.proofs.Rounds.{given_blank_side, given_blank_left, given_whole}
use Rattle.policy_iteration.proofs.values.given.Goals as goal

pub returns-then-left-eq0 : goal.returns-then-left-eq0
returns-then-left-eq0 c = ⊎_elim (λ e. rw e (given_blank_side _)) (λ e. rw e.1 (given_blank_left _)) c.if-left-eq0.either

pub returns-else-left-eq0 : goal.returns-else-left-eq0
returns-else-left-eq0 c = let p = positive _ c.if-left-eq0.false.0 in given_whole _ _ (c.requires.1 p) (positive _ c.if-left-eq0.false.1) c.requires.2
