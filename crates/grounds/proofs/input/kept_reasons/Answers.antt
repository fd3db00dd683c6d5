use Rattle.definitions.proofs.Inputs.{kept_whole}
use Rattle.grounds.proofs.input.kept_reasons.Goals as goal

pub returns : goal.returns
returns c = λ input k. rw (kept_whole k c.requires.1) c.whole_reasons.ensures
