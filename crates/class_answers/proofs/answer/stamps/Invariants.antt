use Rattle.class_answers.specs.Answered.{Stamps}
use Rattle.class_answers.proofs.answer.stamps.Given as goal

abbrev pub invariant-loop-j : goal.invariant-loop-j
invariant-loop-j l = Stamps l.point l.j l.out
