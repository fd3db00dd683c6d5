use mathlib.Core.Path.{sym}
use native.Mathlib.Omega.{arith}
use Rattle.definitions.proofs.Put.{put_nil}
use Rattle.capi.proofs.Lent.{copied_more}
use Rattle.capi.proofs.behind.copy_numbers.Goals as goal

pub loop-i-init : goal.loop-i-init
loop-i-init c = sym (put_nil c.args.to.now 0)

pub loop-i-preserved : goal.loop-i-preserved
loop-i-preserved c = copied_more c.args.to.now c.args.from.now c.loop-i.i (omega arith) c.requires c.loop-i.invariant
