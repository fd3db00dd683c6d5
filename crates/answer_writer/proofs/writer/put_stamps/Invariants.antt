use Rattle.std.proofs.Common.{◌≡◌, map, take}
use Rattle.definitions.specs.Bytes.{fields, put}
use Rattle.definitions.specs.Offset.{off}
use Rattle.answer_writer.proofs.writer.put_stamps.Given as goal

abbrev pub invariant-loop-i : goal.invariant-loop-i
invariant-loop-i l = l.buffer ≡ put l.initial.buffer l.at (fields 4 (take l.i (map off l.stamps)))
