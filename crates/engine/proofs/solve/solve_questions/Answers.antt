use native.Mathlib.Omega.{arith}
use Rattle.engine.proofs.Questions.{turns_none, turns_all, turn_held, turn_tables, turn_more, turn_at, turn_trials}
use Rattle.engine.proofs.solve.solve_questions.Goals as goal

pub loop-q-init : goal.loop-q-init
loop-q-init c = search turns_none

pub read_question-requires : goal.read_question-requires
read_question-requires c = search turn_held

pub solve_one-one-requires : goal.solve_one-one-requires
solve_one-one-requires c = (search turn_tables, omega arith)

pub overflow_add-at : goal.overflow_add-at
overflow_add-at c = search turn_at

pub overflow_add-trials : goal.overflow_add-trials
overflow_add-trials c = search turn_trials

pub loop-q-preserved : goal.loop-q-preserved
loop-q-preserved c = search turn_more

pub returns : goal.returns
returns c = search turns_all
