use native.Mathlib.Omega.{arith}
use Prim.Native.Nat.{◌+◌}
use mathlib.Core.Path.{refl, ◌∙◌}
use Rattle.plan_tests.specs.Sides.{run}
use Rattle.plan_tests.proofs.Sides.{best_floor, left_sized, right_sized, row_kept}
use Rattle.plan_tests.proofs.row_stands.Goals as goal

pub best-most-requires : goal.best-most-requires
best-most-requires c = right_sized c.args.rows.now.laid c.requires.1 c.args.i (omega arith) refl c.right_start.ensures

pub none_above-requires : goal.none_above-requires
none_above-requires c = (
  left_sized c.args.rows.now.laid c.requires.1 c.args.i (omega arith) c.left_start.ensures refl,
  omega (arith, c.offset_32.ensures.0, c.best-most.ensures.is, best_floor (run c.args.rows.now.bytes.now c.right_start.result) c.args.x.now (c.args.rows.now.n + 1)),
)

pub returns : goal.returns
returns c = λ stamps stamped low.
    row_kept c.args.rows.now.laid stamped low c.args.i (omega arith) c.left_start.ensures c.right_start.ensures (rw (c.offset_32.ensures.0 ∙ c.best-most.ensures.is) at c.none_above.ensures)
