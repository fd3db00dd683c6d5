use Rattle.std.proofs.Common.{◌∙◌, leb, rules, tests}
use Rattle.std.proofs.lemmas.Iterator.{YieldsList-from_slice}
use Rattle.std.proofs.lemmas.Iterator.Search.{all_from_yields_List}
use Rattle.definitions.specs.AnswerRecord.{picks_fit}
use Rattle.answer_reader.proofs.Passing.{all_listed}
use Rattle.answer_reader.proofs.answer.picks_fit.Goals as goal

pub returns : goal.returns
unfolding picks_fit
returns c = all_from_yields_List (λ x. leb x c.args.highest) _ _ _ c.all.ensures.ran (YieldsList-from_slice c.args.picks.now cc) (λ x b q k. search (rules, tests)) ∙ all_listed (λ x. leb x c.args.highest) c.args.picks.now
