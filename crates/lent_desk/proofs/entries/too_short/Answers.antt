use native.Mathlib.Omega.{arith}
use Rattle.lent_desk.specs.Entries.{TooShort}
use Rattle.lent_desk.proofs.entries.too_short.Goals as goal

pub returns-then-memory-lt-MEMORY : goal.returns-then-memory-lt-MEMORY
returns-then-memory-lt-MEMORY c = rw c.number.ensures (TooShort.short c.if-memory-lt-MEMORY.true)

pub returns-then-words-lt-DESK_WORDS : goal.returns-then-words-lt-DESK_WORDS
returns-then-words-lt-DESK_WORDS c = TooShort.too_few (omega arith) c.if-words-lt-DESK_WORDS.true
