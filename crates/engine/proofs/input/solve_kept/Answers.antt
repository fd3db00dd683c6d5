use native.Mathlib.Omega.{arith}
use Rattle.engine.proofs.Inputs.{kept_solves, long_not_ok, long_refused}
use Rattle.engine.proofs.input.solve_kept.Goals as goal

pub returns-then-size-le-KEPT : goal.returns-then-size-le-KEPT
returns-then-size-le-KEPT c = search kept_solves

pub unwrap_err-requires : goal.unwrap_err-requires
unwrap_err-requires c = search (long_not_ok, arith)

pub returns : goal.returns
returns c = search (long_refused, arith)
