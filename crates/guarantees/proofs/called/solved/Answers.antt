use native.Mathlib.Omega.{arith}
use Rattle.guarantees.proofs.OwnCalls.{solve_called}
use Rattle.guarantees.proofs.called.solved.Goals as goal

pub returns : goal.returns
returns c =
    solve_called
    (record { bytes = record { byte = λ i. (c.type_inv.problem i).fits }; size = omega arith })
    (record { bytes = record { byte = λ i. (c.slice_known-1.given i).fits }; size = omega arith })
    c.solve.ensures
