use Rattle.std.proofs.Common.{not, arith, rules, tests}
use Rattle.std.proofs.lemmas.Iterator.{YieldsList-from_range}
use Rattle.std.proofs.lemmas.Iterator.Consumers.{YieldsList-from_filter, count_from_yields_List}
use Rattle.definitions.specs.ProblemRecord.{blank_left}
use Rattle.converter.proofs.Steps.{counted_all, rule_stays}
use Rattle.converter.proofs.convert.Record.rules_left.Goals as goal

pub returns : goal.returns
returns c = let r = c.args.self.now in
    counted_all r.stored
    (count_from_yields_List c.filter.result _ c.count.ensures.ran
    (YieldsList-from_filter _ (λ i. not (blank_left r.bytes.now i)) (YieldsList-from_range 0 r.layout.m r.layout.m (cc) (omega arith)) c.filter.ensures.closure (λ x b q k. (search rules, search (rules, tests, rule_stays r.stored)))))
