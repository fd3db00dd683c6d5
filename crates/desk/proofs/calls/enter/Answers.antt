use mathlib.Core.Path.{refl}
use native.Mathlib.Omega.{arith}
use Rattle.desk.proofs.Kept.{copied_put}
use Rattle.desk.proofs.calls.enter.Goals as goal

pub returns : goal.returns
returns c =
    let after = c.copy_from_slice.ensures.after in
    (rw c.joined.ensures refl, rw after (copied_put _ _ _ _ (omega arith)))
