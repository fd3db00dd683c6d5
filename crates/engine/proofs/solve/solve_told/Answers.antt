use Rattle.engine.proofs.Outcomes.{not_several, refuses_room, several_read, several_solves, one_tables, one_room, solves_one}
use Rattle.engine.proofs.solve.solve_told.Goals as goal

pub returns-then-answer-room_for : goal.returns-then-answer-room_for
returns-then-answer-room_for c = search refuses_room

pub solve_questions-solution-requires : goal.solve_questions-solution-requires
solve_questions-solution-requires c = search several_read

pub returns-in-Questions : goal.returns-in-Questions
returns-in-Questions c = search several_solves

pub solve_one-requires : goal.solve_one-requires
solve_one-requires c = let n = not_several c.requires c.in-Problem.is in (one_tables c.requires n, one_room c.requires n c.if-answer-room_for.false c.room_for.ensures)

pub returns-in-Problem : goal.returns-in-Problem
returns-in-Problem c = solves_one c.requires (not_several c.requires c.in-Problem.is) c.if-answer-room_for.false c.room_for.ensures c.solve_one.ensures
