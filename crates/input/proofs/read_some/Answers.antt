use Rattle.std.proofs.Common.{rules, sym}
use Rattle.input.specs.Came.{OnceRead, once}
use Rattle.input.proofs.read_some.Goals as goal

pub returns-in-Err-clause-answered : goal.returns-in-Err-clause-answered
returns-in-Err-clause-answered g c = OnceRead.broken _ (search rules)

pub returns-in-Ok-clause-answered : goal.returns-in-Ok-clause-answered
returns-in-Ok-clause-answered g c = once c.read.result c.in-Ok.is (search rules) (record { bytes = _; count = sym c.in-Ok.ensures.bound.1; kept = c.keep.ensures })

pub returns-in-Ok-clause-taken : goal.returns-in-Ok-clause-taken
returns-in-Ok-clause-taken g c = (record { came = record { bytes = _; count = sym c.in-Ok.ensures.bound.1; kept = c.keep.ensures }; first = c.in-Ok.ensures.bytes.0 }, λ e. c.in-Ok.ensures.bytes.1 e (search rules))
