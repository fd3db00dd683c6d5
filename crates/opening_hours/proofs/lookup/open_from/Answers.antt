use native.Mathlib.Omega.{arith}
use Rattle.opening_hours.proofs.Lists.{pair_is, shut_more, first_opening, found_window, found_next_week}
use Rattle.opening_hours.proofs.lookup.open_from.Goals as goal

pub returns-then-minute-closing : goal.returns-then-minute-closing
returns-then-minute-closing c =
    let p = pair_is c.args.week.now c.loop-opening.opening-index c.as_chunks.ensures.front (omega arith) in
    rw (c.max.ensures, p.opens) (found_window c.requires c.loop-opening.invariant (omega arith) (omega arith))

pub loop-opening-preserved : goal.loop-opening-preserved
loop-opening-preserved c =
    let p = pair_is c.args.week.now c.loop-opening.opening-index c.as_chunks.ensures.front (omega arith) in
    shut_more c.loop-opening.invariant (omega arith) (omega arith)

pub overflow_add-result : goal.overflow_add-result
overflow_add-result c = omega (arith, first_opening c.requires)

pub returns : goal.returns
returns c = found_next_week c.requires c.loop-opening.invariant (omega arith)
