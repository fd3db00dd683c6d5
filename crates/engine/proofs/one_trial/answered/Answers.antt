use Rattle.engine.proofs.Trials.{looked_framed, answer_packable, answer_kept}
use Rattle.engine.proofs.one_trial.answered.Goals as goal

pub answer_of-answer-requires : goal.answer_of-answer-requires
answer_of-answer-requires c = search looked_framed

pub pack-requires : goal.pack-requires
pack-requires c = search answer_packable

pub returns : goal.returns
returns c = search answer_kept
