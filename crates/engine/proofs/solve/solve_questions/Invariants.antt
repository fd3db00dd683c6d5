use Rattle.engine.specs.Outcome.{Turns}
use Rattle.engine.proofs.solve.solve_questions.Given as goal

abbrev pub invariant-loop-q : goal.invariant-loop-q
invariant-loop-q l = Turns l.problem l.q l.at l.trials l.initial.answer l.answer l.left l.right
