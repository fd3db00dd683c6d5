use native.Mathlib.Omega.{arith}
use Rattle.definitions.specs.Bytes.{Bytes}
use Rattle.desk.proofs.Holding.{some_not_none, none_is}
use Rattle.desk.proofs.Collecting.{collected_short, collected_none, collected_waits, collected_room, can_answer, collected_handed}
use Rattle.desk.proofs.calls.collect.Goals as goal

pub returns-then-memory-lt-MEMORY : goal.returns-then-memory-lt-MEMORY
returns-then-memory-lt-MEMORY c = search collected_short

pub returns-in_default : goal.returns-in_default
returns-in_default c = rw c.in_default.is (collected_none _ _ (omega arith))

pub returns-then-is_none : goal.returns-then-is_none
returns-then-is_none c = rw c.in-Some.is (collected_waits _ _ (omega arith) _ (none_is _ c.if-is_none.ensures))

pub returns-then-buffer-lt-ANSWER_MOST : goal.returns-then-buffer-lt-ANSWER_MOST
returns-then-buffer-lt-ANSWER_MOST c = rw c.in-Some.is (collected_room _ _ (omega arith) _ (some_not_none _ c.if-is_none.ensures) (omega arith))

pub hand_over-requires : goal.hand_over-requires
hand_over-requires c =
    let bytes : Bytes c.args.memory.now = record { byte = λ i. (c.type_inv.memory i).fits } in
    (can_answer _ c.args.buffer.now (omega arith) _ (some_not_none _ c.if-is_none.ensures) bytes (rw c.in-Some.is at c.requires), omega arith)

pub returns : goal.returns
returns c = rw c.in-Some.is (collected_handed _ _ (omega arith) _ (some_not_none _ c.if-is_none.ensures) (omega arith) (omega arith) c.hand_over.ensures)
