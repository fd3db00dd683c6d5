use Rattle.std.proofs.Common.{◌∙◌, get_or, arith, rules, tests}
use Rattle.std.proofs.lemmas.Iterator.{YieldsList-from_range}
use Rattle.std.proofs.lemmas.Iterator.Search.{any_from_yields_List}
use Rattle.definitions.specs.Merging.{early}
use Rattle.merging.specs.Plans.{later_of}
use Rattle.merging.proofs.Plans.{joined_any}
use Rattle.merging.proofs.stamps.Pair.some_early.Goals as goal

pub returns : goal.returns
returns c = let p = c.args.self.now in
    any_from_yields_List (λ j. early (later_of p.back (get_or p.first.now j 0) (get_or p.second.now j 0))) _ _ _ c.any.ensures.ran (YieldsList-from_range 0 c.args.count c.args.count (cc) (omega arith)) (λ x b q k. search (rules, tests))
    ∙ joined_any p.back p.first.now p.second.now c.args.count
