use Rattle.std.proofs.Common.{◌∙◌, rules, tests}
use Rattle.std.proofs.lemmas.Iterator.{YieldsList-from_slice}
use Rattle.std.proofs.lemmas.Iterator.Consumers.{YieldsList-from_enumerate}
use Rattle.std.proofs.lemmas.Iterator.Search.{all_from_yields_List}
use Rattle.answer_reader.proofs.Passing.{numbered_fits, stamps_listed}
use Rattle.answer_reader.proofs.answer.stamps_fit.Goals as goal

pub returns : goal.returns
returns c = all_from_yields_List numbered_fits _ _ _ c.all.ensures.ran (YieldsList-from_enumerate (YieldsList-from_slice c.args.stamps.now (cc)) (cc)) (λ x b q k. search (rules, tests)) ∙ stamps_listed c.args.stamps.now
