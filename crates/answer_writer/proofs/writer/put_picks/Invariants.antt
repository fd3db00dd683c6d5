use Rattle.std.proofs.Common.{◌≡◌, take}
use Rattle.definitions.specs.Bytes.{fields, put}
use Rattle.answer_writer.proofs.writer.put_picks.Given as goal

abbrev pub invariant-loop-i : goal.invariant-loop-i
invariant-loop-i l = l.buffer ≡ put l.initial.buffer l.at (fields 2 (take l.i l.picks))
