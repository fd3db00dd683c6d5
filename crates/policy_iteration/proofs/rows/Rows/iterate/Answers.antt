use Rattle.policy_iteration.specs.Rows.{system_in}
use Rattle.policy_iteration.proofs.Steps.{kept_none, values_within, step_kept, step_lower, step_end}
use Rattle.policy_iteration.proofs.rows.Rows.iterate.Goals as goal

pub loop-x-init : goal.loop-x-init
loop-x-init c = (kept_none (system_in c.args.self.now c.args.caps.now) c.requires.0.right.tables.width_most, c.evaluate-x.ensures)

pub passes-requires : goal.passes-requires
passes-requires c = let a = c.args in
    let s = a.self.now in
    let pre = c.requires in
    let turn = c.loop-x in
    record {
      sides = pre.0;
      within = values_within s.left.now s.right.now a.caps.now turn.kept _ s.width s.count pre.0.right.tables pre.1 turn.invariant.1;
      size = turn.invariant.0.size;
    }

pub loop-x-smaller : goal.loop-x-smaller
loop-x-smaller c = let pre = c.requires in let turn = c.loop-x.invariant in step_lower c.passes.ensures pre.1 pre.0.right.tables turn.0 turn.1 c.loop-x-test.true

pub loop-x-preserved : goal.loop-x-preserved
loop-x-preserved c = let pre = c.requires in let turn = c.loop-x.invariant in (step_kept c.passes.ensures pre.1 pre.0.right.tables turn.0 turn.1 c.loop-x-test.true, c.evaluate-x-in-loop-x.ensures)

pub returns : goal.returns
returns c = let pre = c.requires in
    let turn = c.loop-x.invariant in
    let end = step_end c.passes.ensures pre.1 pre.0.right.tables turn.0 turn.1 c.loop-x-test.false in
    rw c.indices.ensures end
