use borrow.Author.Rules.{rules}
use native.Mathlib.Omega.{arith}
use Rattle.std.proofs.lemmas.Result.{err_from_is_err_and}
use Rattle.desk.proofs.Taking.{took_short, took_refused, took_full, took_last, can_room, took_one}
use Rattle.desk.proofs.calls.take_in.Goals as goal

pub returns-then-memory-lt-MEMORY : goal.returns-then-memory-lt-MEMORY
returns-then-memory-lt-MEMORY c = took_short c.if-memory-lt-MEMORY.true

pub returns-in_err-pending : goal.returns-in_err-pending
returns-in_err-pending c = let p = err_from_is_err_and c.from_residual.result c.from_residual.ensures.1 in
    rw (p.1, p.2) (took_refused (omega arith) c.in_err-pending.was (search rules))

pub returns-in_default : goal.returns-in_default
returns-in_default c = took_full (omega arith) c.in_ok-pending.was (search rules) c.in_default.is

pub returns-then-front-eq-LAST_TICKET : goal.returns-then-front-eq-LAST_TICKET
returns-then-front-eq-LAST_TICKET c = took_last (omega arith) c.in_ok-pending.was (search rules) c.in-Some.is (omega arith)

pub enter-requires : goal.enter-requires
enter-requires c = can_room _ _ _ _ _ (omega arith) c.in_ok-pending.was (search rules) c.in-Some.is (omega arith) c.requires

pub returns : goal.returns
returns c = took_one _ _ _ _ _ (omega arith) c.in_ok-pending.was (search rules) c.in-Some.is (omega arith) c.enter.ensures.0 c.enter.ensures.1
