use borrow.Author.Rules.{rules}
use Rattle.converter.proofs.Steps.{rule_stays}
use Rattle.converter.proofs.convert.Record.stays.Goals as goal

pub returns : goal.returns
returns c = rule_stays c.args.self.now.stored c.args.i (search rules)
