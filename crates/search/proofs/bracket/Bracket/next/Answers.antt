use Rattle.search.proofs.Halves.{next_possible, next_impossible}
use Rattle.search.proofs.bracket.Bracket.next.Goals as goal

pub returns-then-possible : goal.returns-then-possible
returns-then-possible c = let s = c.args.self in rw c.if-possible.true (next_possible s.low s.high c.middle-half.result c.middle-half.ensures.0)

pub returns-else-possible : goal.returns-else-possible
returns-else-possible c = let s = c.args.self in rw c.if-possible.false (next_impossible s.low s.high c.middle-half.result c.middle-half.ensures.0)
