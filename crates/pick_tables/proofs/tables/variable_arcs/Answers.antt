use Rattle.base.proofs.Filled.{filled_none}
use Rattle.pick_tables.proofs.Shown.{arcs_copied, arcs_passed}
use native.Mathlib.Omega.{arith}
use Rattle.pick_tables.proofs.tables.variable_arcs.Goals as goal
use Rattle.pick_tables.proofs.tables.variable_arcs.Goals.{then-pick-rows, else-pick-rows}

pub loop-j-init : goal.loop-j-init
loop-j-init c = filled_none 1024

pub loop-j-preserved : goal.loop-j-preserved
loop-j-preserved c = elim c.if-pick-rows.branch [
  | then-pick-rows w ↦ rw (w.arcs-is, w.copy_from_slice.ensures.after) (arcs_copied _ _ _ c.loop-j.invariant (omega arith) w.if-pick-rows.true (omega arith) c.requires.0)
  | else-pick-rows w ↦ rw w.arcs-is (arcs_passed _ _ _ c.loop-j.invariant w.if-pick-rows.false)
]
