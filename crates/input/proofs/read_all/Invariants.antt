use Rattle.std.proofs.Common.{◌+◌, ◌-◌, ◌≤◌}
use Rattle.definitions.specs.Programs.{read_most}
use Rattle.input.specs.Came.{read_size}
use Rattle.input.specs.Taken.{Taken}
use Rattle.input.proofs.read_all.Given as goal

abbrev pub invariant-loop-size : goal.invariant-loop-size
invariant-loop-size g l = (l.size ≤ read_most + read_size) × Taken (g.R.Read.remaining l.fn.input) (g.R.Read.remaining l.input) l.fn.kept 0 l.size l.kept

abbrev pub decreases-loop-size : goal.decreases-loop-size
decreases-loop-size g l = read_most + read_size - l.size
