use mathlib.Core.Path.{refl}
use native.Mathlib.Omega.{arith}
use Rattle.desk_words.proofs.Back.{copied, putting_none, putting_more, putting_all, put_two}
use Rattle.desk_words.proofs.runs.put_run.Goals as goal

pub loop-j-init : goal.loop-j-init
loop-j-init c = putting_none _ _ _

pub loop-j-preserved : goal.loop-j-preserved
loop-j-preserved c = putting_more (copied c.args.numbers.now (omega arith) (omega arith) c.copy_from_slice.ensures.after) (omega arith) c.loop-j-test.true refl c.loop-j.invariant

pub returns : goal.returns
returns c =
    put_two _ _ (omega arith) refl (copied c.args.numbers.now (omega arith) (omega arith) c.copy_from_slice.ensures.after) (putting_all (omega arith) c.loop-j.invariant)
