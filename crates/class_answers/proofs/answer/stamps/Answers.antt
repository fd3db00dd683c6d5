use Rattle.base.proofs.Filled.{filled_none}
use Rattle.class_answers.proofs.answer.stamps.Goals as goal

pub loop-j-init : goal.loop-j-init
loop-j-init c = filled_none 32
