use Rattle.answer_reader.proofs.Padding.{Filling}
use Rattle.answer_reader.specs.Fields.{stamps_at}
use Rattle.answer_reader.proofs.answer.stamps_from.Given as goal

abbrev pub invariant-loop-i : goal.invariant-loop-i
invariant-loop-i l = Filling 32 (stamps_at l.bytes l.count) l.i l.out
