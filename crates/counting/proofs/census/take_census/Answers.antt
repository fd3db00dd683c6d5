use Rattle.std.proofs.lemmas.Result.{err_from_is_err_and}
use Rattle.counting.proofs.Answers.{total_told, census_told, census_away}
use Rattle.counting.proofs.census.take_census.Goals as goal

pub returns-in_err-total : goal.returns-in_err-total
returns-in_err-total c = let p = err_from_is_err_and c.from_residual.result c.from_residual.ensures.1 in
    rw (p.1, p.2) (census_away c.judge.ensures c.in_err-total.was)

pub tally_all-requires : goal.tally_all-requires
tally_all-requires c = total_told c.judge.ensures c.in_ok-total.was

pub returns : goal.returns
returns c = census_told c.judge.ensures c.in_ok-total.was c.tally_all.ensures
