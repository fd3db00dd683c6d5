use Rattle.base.proofs.Lists.{rest_whole}
use Rattle.grounds.proofs.LongInput.{reasoned_parts}
use Rattle.grounds.proofs.input.whole_reasons.Goals as goal

pub returns : goal.returns
returns c = reasoned_parts _ c.cut_place-cut.ensures.place (rw (rest_whole c.args.input.now c.cut_place-cut.result) at c.reasons.ensures)
