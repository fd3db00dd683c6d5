use mathlib.Core.Logic.{⊎_elim}
use Rattle.grounds.proofs.Sums.{sum_first, sum_second, sum_both}
use Rattle.grounds.proofs.latest.sum_of.Goals as goal

pub returns-then-lead-eq0 : goal.returns-then-lead-eq0
returns-then-lead-eq0 c = ⊎_elim (λ e. sum_first _ _ e) (λ p. sum_second _ _ p.1) c.then-lead-eq0.either

pub returns : goal.returns
returns c = rw c.from.ensures (sum_both _ _ c.requires.0 c.requires.1 c.if-lead-eq0.false c.if-stamp-eq0.false)
