use Rattle.std.proofs.Common.{◌-◌, arith}
use Rattle.closed_walks.proofs.Holding.{laid_holds}
use Rattle.checker.proofs.Acceptance.{top_trial_is, infeasible_at, begins_inside, infeasible_started, by_optimal, by_unbounded, by_infeasible, start_names, highest_optimal, highest_unbounded, highest_infeasible, class_zero, class_other}
use Rattle.checker.proofs.check.certify.Goals as goal

pub certify_optimal-requires : goal.certify_optimal-requires
certify_optimal-requires c = let f = c.requires in
    let a = c.args in
    let one = c.in-1.is in
    (f.stamped, f.anchored one, rw (highest_optimal a.rows.now.n a.rows.now.m a.head.class one) at f.picked, f.whole_span one)

pub overflow_sub-start : goal.overflow_sub-start
overflow_sub-start c = omega (arith, (start_names c.requires c.in-2.is).0)

pub certify_named-requires : goal.certify_named-requires
certify_named-requires c = let a = c.args in
    let two = c.in-2.is in
    (rw (highest_unbounded a.rows.now.n a.rows.now.m a.head.class two) at c.requires.picked, omega (arith, (start_names c.requires two).1))

pub certify_variables-requires : goal.certify_variables-requires
certify_variables-requires c = let a = c.args in
    (record { some = omega arith; near = record { hi = omega arith; lo = λ _. omega arith } }, rw (highest_infeasible a.rows.now.n a.rows.now.m a.head.class c.in-3.is) at c.requires.picked, c.start_marks.ensures.flags)

pub returns-in-1 : goal.returns-in-1
returns-in-1 c = λ a e. let one = c.in-1.is in
    by_optimal c.args.head e one (c.requires.whole_span one) c.certify_optimal.ensures

pub returns-in-2 : goal.returns-in-2
returns-in-2 c = λ a e. let two = c.in-2.is in
    by_unbounded c.args.head e (c.args.head.start - 1) two (omega (arith, (start_names c.requires two).0)) c.certify_named.ensures

pub returns-in-3 : goal.returns-in-3
returns-in-3 c = λ a e.
    let g = c.args in
    let held = laid_holds g.rows.now.laid in
    let three = c.in-3.is in
    by_infeasible g.head e three (infeasible_started c.start_marks.ensures (infeasible_at held (begins_inside held) (rw (highest_infeasible g.rows.now.n g.rows.now.m g.head.class three) at c.requires.picked) (c.certify_variables.ensures _ top_trial_is)))

pub returns-in-0 : goal.returns-in-0
returns-in-0 c = λ a e. absurd (class_zero c.in-0.in-0-own.keys4 c.requires.class_known)

pub returns-in-0-2 : goal.returns-in-0-2
returns-in-0-2 c = λ a e. absurd (class_other c.requires.class_known c.in-0.in-0-own.rest.0.0.0.1 c.in-0.in-0-own.rest.0.0.1 c.in-0.in-0-own.rest.0.1)
