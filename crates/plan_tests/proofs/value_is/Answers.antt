use Rattle.base.proofs.Decides.{said_no}
use Rattle.plan_tests.proofs.Sides.{left_sized, right_sized, first_blank, second_blank, value_read, side_small}
use mathlib.Core.Path.{refl, sym, ◌∙◌}
use native.Mathlib.Omega.{arith}
use mathlib.Core.Logic.{⊎_elim}
use Prim.Native.Nat.{◌+◌}
use borrow.Author.Tests.{eqb-true, eqb-false, eq-eqb}
use Rattle.definitions.specs.Limits.{signed_half}
use Rattle.plan_tests.proofs.value_is.Goals as goal
use Rattle.plan_tests.proofs.value_is.Goals.{then-first-ne0, else-first-ne0}

pub side-first-requires : goal.side-first-requires
side-first-requires c = left_sized c.args.rows.now.laid c.requires.0 _ (omega arith) c.left_start.ensures refl

pub side-second-requires : goal.side-second-requires
side-second-requires c = right_sized c.args.rows.now.laid c.requires.0 _ (omega arith) refl c.right_start.ensures

pub overflow_add-result : goal.overflow_add-result
overflow_add-result c = omega (arith, c.side-first.ensures, side_small {x = c.args.x.now} (left_sized c.args.rows.now.laid c.requires.0 _ (omega arith) c.left_start.ensures refl))

pub overflow_add-result-then-second-ne0 : goal.overflow_add-result-then-second-ne0
overflow_add-result-then-second-ne0 c = omega (arith, c.side-second.ensures, side_small {x = c.args.x.now} (right_sized c.args.rows.now.laid c.requires.0 _ (omega arith) refl c.right_start.ensures))

pub returns-then-second-ne0 : goal.returns-then-second-ne0
returns-then-second-ne0 c = λ stamps z stamped low e.
    let q = value_read c.args.rows.now.laid stamped low c.left_start.ensures c.right_start.ensures c.args.s (λ k. c.if-second-ne0.true.0 (c.side-first.ensures ∙ k)) (λ k. c.if-second-ne0.true.1 (c.side-second.ensures ∙ k)) e in
    record {
      yes = λ t. q.1 (omega (arith, c.side-first.ensures, c.side-second.ensures, eqb-true (c.side-first.result + signed_half) (c.side-second.result + c.args.s) t));
      no = λ t v. eqb-false (c.side-first.result + signed_half) (c.side-second.result + c.args.s) t (omega (arith, c.side-first.ensures, c.side-second.ensures, q.0 v));
    }

pub returns-else-second-ne0 : goal.returns-else-second-ne0
returns-else-second-ne0 c = λ stamps z stamped low e. elim c.if-first-ne0.branch [
  | then-first-ne0 w ↦ ⊎_elim
      (λ blank. rw (w.t-11-is, eq-eqb _ 0 blank.1) (said_no (second_blank c.args.rows.now.laid stamped low c.left_start.ensures c.right_start.ensures (λ k. blank.0 (c.side-first.ensures ∙ k)) (sym c.side-second.ensures ∙ blank.1))))
      (λ blank. absurd (w.if-first-ne0.true blank))
      c.if-second-ne0.either
  | else-first-ne0 w ↦ rw (w.t-11-is, eq-eqb _ 0 w.if-first-ne0.false) (said_no (first_blank c.args.rows.now.laid stamped low c.left_start.ensures c.right_start.ensures (sym c.side-first.ensures ∙ w.if-first-ne0.false)))
]
