use native.Mathlib.Omega.{arith}
use mathlib.Core.Path.{sym, ◌∙◌}
use Rattle.desk.proofs.Holding.{some_not_none, none_is}
use Rattle.desk.proofs.Steps.{stepped_short, stepped_idle, head_fits, head_tryable, gone_fits, stepped_done, stepped_on}
use Rattle.desk.proofs.calls.step.Goals as goal

pub returns-then-memory-lt-MEMORY : goal.returns-then-memory-lt-MEMORY
returns-then-memory-lt-MEMORY c = search stepped_short

pub returns-then-front-eq0 : goal.returns-then-front-eq0
returns-then-front-eq0 c = search (stepped_idle, arith)

pub first-at-requires : goal.first-at-requires
first-at-requires c = head_fits _ _ _ (omega arith) c.if-front-eq0.false c.requires

pub tried-next-requires : goal.tried-next-requires
tried-next-requires c = rw c.first-at.ensures (head_tryable _ _ _ (omega arith) c.if-front-eq0.false c.requires)

pub left_line-rest-requires : goal.left_line-rest-requires
left_line-rest-requires c = search (head_fits, arith)

pub joined-requires : goal.joined-requires
joined-requires c = gone_fits (head_fits _ _ _ (omega arith) c.if-front-eq0.false c.requires) c.if-front-eq0.false c.left_line-rest.ensures

pub returns-then-done : goal.returns-then-done
returns-then-done c = rw c.if-done.true (
    stepped_done _ _ _ (omega arith) c.if-front-eq0.false _ (rw c.first-at.ensures at c.tried-next.ensures) c.left_line-rest.ensures
    (omega arith) (some_not_none _ (sym c.is_some-done.ensures ∙ c.if-done.true))
    )

pub returns-else-done : goal.returns-else-done
returns-else-done c = rw c.if-done.false (
    stepped_on _ _ _ (omega arith) c.if-front-eq0.false _ (rw c.first-at.ensures at c.tried-next.ensures) c.left_line-rest.ensures
    (omega arith) (rw c.first-at.ensures at c.joined.ensures) (none_is _ (sym c.is_some-done.ensures ∙ c.if-done.false))
    )
