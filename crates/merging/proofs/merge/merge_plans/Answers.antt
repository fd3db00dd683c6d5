use mathlib.Core.Path.{sym, ap, ◌∙◌}
use native.Mathlib.Omega.{arith}
use Rattle.std.proofs.lemmas.Result.{err_from_is_err_and}
use Rattle.definitions.specs.ProblemRecord.{problem_of}
use Rattle.records.specs.Refusals.{refused_by}
use Rattle.merging.proofs.Plans.{plan_of_form}
use Rattle.merging.proofs.Outcomes.{held_of, read_n_most, read_tables, none_pair, refused_pair, wrote_merges, held_first, held_second}
use Rattle.merging.proofs.merge.merge_plans.Goals as goal

pub stamps_in-x-requires : goal.stamps_in-x-requires
stamps_in-x-requires c = let p = c.requires in (omega (arith, read_n_most p.read), omega (arith, (plan_of_form _ _ p.first_fits).size_is))

pub stamps_in-y-requires : goal.stamps_in-y-requires
stamps_in-y-requires c = let p = c.requires in (omega (arith, read_n_most p.read), omega (arith, (plan_of_form _ _ p.second_fits).size_is))

pub both_keep-requires : goal.both_keep-requires
both_keep-requires c =
    let pre = c.requires in
    let held = held_of c.type_inv.first c.type_inv.second c.stamps_in-x.ensures c.stamps_in-y.ensures pre.first_fits pre.second_fits in
    (read_tables pre.read, held_first held, held_second held)

pub returns-in_err-judge_pair : goal.returns-in_err-judge_pair
returns-in_err-judge_pair c p read =
    let pre = c.requires in
    let held = held_of c.type_inv.first c.type_inv.second c.stamps_in-x.ensures c.stamps_in-y.ensures pre.first_fits pre.second_fits in
    let q = err_from_is_err_and c.from_residual.result c.from_residual.ensures.1 in
    rw (q.1, q.2) (refused_pair held read c.args.out.now pre.room_enough c.args.shift c.is_forward.ensures (c.both_keep.ensures (problem_of p) read.stands) c.judge_pair.ensures c.in_err-judge_pair.was)

pub minutes_back-requires : goal.minutes_back-requires
minutes_back-requires c =
    let fine = none_pair c.is_forward.result c.both_keep.result (sym c.judge_pair.ensures ∙ ap refused_by c.in_ok-judge_pair.was) in
    sym c.is_forward.ensures ∙ fine.0

pub invariant_of-pair : goal.invariant_of-pair
invariant_of-pair c =
    let pre = c.requires in
    let held = held_of c.type_inv.first c.type_inv.second c.stamps_in-x.ensures c.stamps_in-y.ensures pre.first_fits pre.second_fits in
    record { first_stamps = held_first held; second_stamps = held_second held; back_most = c.minutes_back.ensures.1 }

pub returns : goal.returns
returns c p read =
    let pre = c.requires in
    let held = held_of c.type_inv.first c.type_inv.second c.stamps_in-x.ensures c.stamps_in-y.ensures pre.first_fits pre.second_fits in
    let fine = none_pair c.is_forward.result c.both_keep.result (sym c.judge_pair.ensures ∙ ap refused_by c.in_ok-judge_pair.was) in
    wrote_merges held read c.args.out.now pre.room_enough c.args.shift c.is_forward.ensures fine.0 (c.both_keep.ensures (problem_of p) read.stands) c.minutes_back.result
    c.minutes_back.ensures.0 fine.1 c.merge_back.ensures
