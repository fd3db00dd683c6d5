use mathlib.Core.Path.{◌∙◌}
use native.Mathlib.Omega.{arith}
use Rattle.base.proofs.Filled.{filled_none, filled_more}
use Rattle.merging.proofs.Plans.{joined_at, joined_late}
use Rattle.merging.proofs.stamps.Pair.merged_stamps.Goals as goal

pub loop-j-init : goal.loop-j-init
loop-j-init c = filled_none 32

pub later_of-requires : goal.later_of-requires
later_of-requires c = let p = c.args.self.now in (p.first_stamps.near _, p.second_stamps.near _, p.back_most, joined_late p.back p.first.now p.second.now c.args.count c.loop-j.j c.requires.1 (omega arith))

pub loop-j-preserved : goal.loop-j-preserved
loop-j-preserved c = let p = c.args.self.now in
    filled_more c.loop-j.invariant (omega arith) (c.later_of.ensures.0 ∙ joined_at p.back p.first.now p.second.now c.loop-j.j, c.later_of.ensures.1)
