use Prim.Native.Nat.{◌≤◌}
use Rattle.definitions.specs.Limits.{census_most}
use Rattle.census.proofs.Reading.{ReadSo}
use Rattle.census.proofs.words.read_number.Given as goal

abbrev pub invariant-loop-byte : goal.invariant-loop-byte
invariant-loop-byte l = (l.value ≤ census_most) × ReadSo l.word l.byte-index l.value
