use Rattle.capi.specs.Numbers.{Numbered}
use Rattle.capi.proofs.calls.verdict_number.Goals as goal

pub returns-in-Ok : goal.returns-in-Ok
returns-in-Ok c = rw c.in-Ok.is (Numbered.accepted _ _)

pub returns-in-Err : goal.returns-in-Err
returns-in-Err c = rw (c.in-Err.is, c.number.ensures) (Numbered.refused _)
