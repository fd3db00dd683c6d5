use Rattle.hour_texts.proofs.Numbers.{Begun}
use Rattle.hour_texts.proofs.reader.read_digits.Given as goal

abbrev pub invariant-loop-byte : goal.invariant-loop-byte
invariant-loop-byte l = Begun l.digits l.byte-index l.number
