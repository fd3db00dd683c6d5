use native.Mathlib.Omega.{arith}
use Rattle.problem_records.proofs.QuestionTables.{question_sizes, question_read}
use Rattle.problem_records.proofs.reader.read_question.Goals as goal

pub overflow_add-m : goal.overflow_add-m
overflow_add-m c = let z = question_sizes c.requires in omega (arith, z.m_most, z.q_most)

pub row_place-requires : goal.row_place-requires
row_place-requires c = let z = question_sizes c.requires in (z.n_most, omega (arith, z.m_most, z.q_most))

pub overflow_add-at : goal.overflow_add-at
overflow_add-at c = omega (arith, c.row_place.ensures.1)

pub overflow_mul-m : goal.overflow_mul-m
overflow_mul-m c = let z = question_sizes c.requires in omega (arith, z.m_most)

pub read_row-requires : goal.read_row-requires
read_row-requires c = let z = question_sizes c.requires in (z.n_most, omega (arith, z.holds, c.row_place.ensures.0), omega (arith, z.left_room, z.m_most))

pub overflow_add-n : goal.overflow_add-n
overflow_add-n c = let z = question_sizes c.requires in omega (arith, z.n_most)

pub overflow_mul-n : goal.overflow_mul-n
overflow_mul-n c = let z = question_sizes c.requires in omega (arith, z.n_most)

pub overflow_add-at-2 : goal.overflow_add-at-2
overflow_add-at-2 c = let z = question_sizes c.requires in omega (arith, z.n_most, c.row_place.ensures.1)

pub overflow_mul-m-2 : goal.overflow_mul-m-2
overflow_mul-m-2 c = let z = question_sizes c.requires in omega (arith, z.m_most)

pub read_row-requires-2 : goal.read_row-requires-2
read_row-requires-2 c = let z = question_sizes c.requires in (z.n_most, omega (arith, z.holds, c.row_place.ensures.0), omega (arith, z.right_room, z.m_most))

pub returns : goal.returns
returns c = question_read c.requires _ (omega (arith, c.row_place.ensures.0)) c.read_row.ensures c.read_row-2.ensures
