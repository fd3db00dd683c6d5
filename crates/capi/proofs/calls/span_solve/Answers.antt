use Rattle.capi.proofs.Small.{few_trials}
use Rattle.capi.proofs.calls.span_solve.Goals as goal

pub solved_number-requires : goal.solved_number-requires
solved_number-requires c = few_trials c.solve.ensures.solves

pub returns : goal.returns
returns c = record { result = _; solves = c.solve.ensures.solves; number_is = c.solved_number.ensures }
