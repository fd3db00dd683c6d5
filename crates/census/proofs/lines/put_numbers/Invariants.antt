use Rattle.census.proofs.Printed.{PutSo}
use Rattle.census.proofs.lines.put_numbers.Given as goal

abbrev pub invariant-loop-number : goal.invariant-loop-number
invariant-loop-number l = PutSo l.initial.line l.numbers l.number-index l.line l.at
