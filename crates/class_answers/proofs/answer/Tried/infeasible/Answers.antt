use Rattle.class_answers.proofs.Infeasible.{infeasible_answer}
use Rattle.class_answers.proofs.answer.Tried.infeasible.Goals as goal

pub returns : goal.returns
returns c = let k = c.requires.0 in infeasible_answer k.ready k.looked k.found_by c.requires.1 c.shown.ensures
