use native.Mathlib.Omega.{arith}
use Rattle.desk.proofs.Taking.{opened_short, opened_ready}
use Rattle.desk.proofs.calls.open_desk.Goals as goal

pub returns-then-memory-lt-MEMORY : goal.returns-then-memory-lt-MEMORY
returns-then-memory-lt-MEMORY c = opened_short c.if-memory-lt-MEMORY.true

pub returns : goal.returns
returns c = opened_ready (omega (arith, c.if-memory-lt-MEMORY.false))
