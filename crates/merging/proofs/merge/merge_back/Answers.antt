use native.Mathlib.Omega.{arith}
use mathlib.Core.Path.{sym, ◌∙◌}
use Rattle.merging.proofs.Outcomes.{wrote_below, wrote_above}
use Rattle.merging.proofs.merge.merge_back.Goals as goal

pub returns-then-some_early : goal.returns-then-some_early
returns-then-some_early c = let p = c.args.pair.now in wrote_below c.args.n p.back p.first.now p.second.now c.args.out.now c.some_early.ensures c.if-some_early.true

pub merged_stamps-stamps-requires : goal.merged_stamps-stamps-requires
merged_stamps-stamps-requires c = (omega arith, sym c.some_early.ensures ∙ c.if-some_early.false)

pub returns : goal.returns
returns c = let p = c.args.pair.now in
    wrote_above c.args.n p.back p.first.now p.second.now c.args.out.now c.some_early.ensures c.if-some_early.false c.merged_stamps-stamps.ensures (omega arith) c.put_stamps.ensures
