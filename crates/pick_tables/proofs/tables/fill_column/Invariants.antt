use mathlib.Core.Path.{◌≡◌}
use lib.ListN.{length}
use Rattle.pick_tables.specs.Shown.{Column}
use Rattle.pick_tables.proofs.tables.fill_column.Given as goal

abbrev pub invariant-loop-j : goal.invariant-loop-j
invariant-loop-j l = (length l.arcs ≡ 1024) × Column l.left l.base l.l l.j l.initial.arcs l.arcs
