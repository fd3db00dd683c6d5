use native.Mathlib.Omega.{arith}
use Rattle.input.proofs.Keeping.{kept_part}
use Rattle.input.proofs.keep.Goals as goal

pub returns : goal.returns
returns c = kept_part _ _ _ (omega arith) (omega arith) c.copy_from_slice.ensures.after
