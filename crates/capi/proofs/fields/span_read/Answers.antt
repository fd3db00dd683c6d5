use Rattle.capi.proofs.Lent.{taken, taken_small, reads_fields, reads_refused}
use Rattle.capi.proofs.fields.span_read.Goals as goal

pub lend-requires : goal.lend-requires
lend-requires c = taken_small (taken (record { byte = λ i. (c.type_inv.bytes i).fits }) c.read_answer-read.ensures c.in-Ok.is)

pub returns-in-Ok : goal.returns-in-Ok
returns-in-Ok c = reads_fields (record { byte = λ i. (c.type_inv.bytes i).fits }) c.read_answer-read.ensures c.in-Ok.is c.lend.ensures

pub returns-in-Err : goal.returns-in-Err
returns-in-Err c = rw c.number.ensures (reads_refused c.read_answer-read.ensures c.in-Err.is _ _)
