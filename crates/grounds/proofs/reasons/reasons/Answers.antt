use Rattle.std.proofs.Common.{refl}
use Rattle.std.proofs.lemmas.Result.{err_from_is_err_and}
use Rattle.grounds.proofs.Reading.{reasoned_refused, accepted_verdict}
use Rattle.grounds.proofs.reasons.reasons.Goals as goal

pub returns-in_err-class : goal.returns-in_err-class
returns-in_err-class c = let p = err_from_is_err_and c.from_residual.result c.from_residual.ensures.1 in
    rw (p.1, p.2) (reasoned_refused c.in_err-class.ensures refl)

pub accepted_reasons-requires : goal.accepted_reasons-requires
accepted_reasons-requires c = accepted_verdict c.check.ensures c.in_ok-class.was
