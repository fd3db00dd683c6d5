use native.Mathlib.Omega.{arith}
use Rattle.guarantees.proofs.OwnCalls.{check_called}
use Rattle.guarantees.proofs.called.checked.Goals as goal

pub returns : goal.returns
returns c =
    check_called
    (record { bytes = record { byte = λ i. (c.type_inv.problem i).fits }; size = omega arith })
    (record { bytes = record { byte = λ i. (c.type_inv.answer i).fits }; size = omega arith })
    c.check.ensures
