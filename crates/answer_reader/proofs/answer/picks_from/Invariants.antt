use Rattle.answer_reader.proofs.Padding.{Filling}
use Rattle.answer_reader.specs.Fields.{picks_at}
use Rattle.answer_reader.proofs.answer.picks_from.Given as goal

abbrev pub invariant-loop-i : goal.invariant-loop-i
invariant-loop-i l = Filling 64 (picks_at l.bytes l.stamps l.count) l.i l.out
