use Rattle.std.proofs.Common.{◌+◌, ◌*◌, ◌≤◌, take}
use Rattle.definitions.specs.Reasons.{spaced}
use Rattle.printing.specs.Text.{Putting}
use Rattle.reasons.proofs.lines.put_numbers.Given as goal

abbrev pub invariant-loop-number : goal.invariant-loop-number
invariant-loop-number l = (l.next ≤ l.at + 21 * l.number-index) × Putting l.initial.lines l.at (spaced (take l.number-index l.numbers)) l.lines l.next
