use Rattle.engine.proofs.Outcomes.{tables_found, one_wrote}
use Rattle.engine.proofs.solve.solve_one.Goals as goal

pub write_found-requires : goal.write_found-requires
write_found-requires c = search tables_found

pub returns : goal.returns
returns c = search one_wrote
