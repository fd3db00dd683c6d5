use Rattle.problem_records.proofs.InForce.{headed}
use borrow.Author.Rules.{rules}
use Rattle.problem_records.proofs.in_force.in_force.Goals as goal

pub put_rows_in_force-requires : goal.put_rows_in_force-requires
put_rows_in_force-requires c = (c.requires, search rules)

pub put_head_in_force-requires : goal.put_head_in_force-requires
put_head_in_force-requires c = (c.requires.n_most, c.requires.m_most, c.put_rows_in_force.ensures.size_is)

pub returns : goal.returns
returns c = headed c.put_rows_in_force.ensures c.put_head_in_force.ensures
