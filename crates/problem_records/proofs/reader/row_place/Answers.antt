use Prim.Native.Nat.{ℕ, ◌+◌, ◌*◌, ◌≤◌}
use native.Mathlib.Omega.{arith}
use native.Mathlib.Nat.{mul-le-mul_right}
use Rattle.problem_records.proofs.reader.row_place.Goals as goal

-- The variables of the rows before row i.
before : (n i : ℕ) → n ≤ 31 → i ≤ 71 → i * (n + 1) ≤ 2272
before n i h k = omega (arith, mul-le-mul_right {m = i} {n = 71} (n + 1) k)

pub overflow_mul-result-2 : goal.overflow_mul-result-2
overflow_mul-result-2 c = omega (arith, before _ _ c.requires.0 c.requires.1)

pub overflow_mul-result-3 : goal.overflow_mul-result-3
overflow_mul-result-3 c = omega (arith, before _ _ c.requires.0 c.requires.1)

pub overflow_add-result-2 : goal.overflow_add-result-2
overflow_add-result-2 c = omega (arith, before _ _ c.requires.0 c.requires.1)

pub returns : goal.returns
returns c = (omega arith, omega (arith, before _ _ c.requires.0 c.requires.1))
