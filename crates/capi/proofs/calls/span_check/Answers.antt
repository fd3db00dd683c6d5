use Rattle.capi.proofs.Small.{small_fields}
use Rattle.capi.proofs.calls.span_check.Goals as goal

pub verdict_number-requires : goal.verdict_number-requires
verdict_number-requires c = small_fields c.check.ensures

pub returns : goal.returns
returns c = record { verdict = _; judged = c.check.ensures; numbered = c.verdict_number.ensures }
