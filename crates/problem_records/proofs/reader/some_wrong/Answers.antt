use Rattle.problem_records.proofs.InForce.{states_none, states_more, states_some, states_end}
use native.Mathlib.Omega.{arith}
use Rattle.problem_records.proofs.reader.some_wrong.Goals as goal

pub loop-i-init : goal.loop-i-init
loop-i-init c = (omega arith, states_none _)

pub returns-then-wrong_state : goal.returns-then-wrong_state
returns-then-wrong_state c = states_some _ _ _ c.loop-i-test.true c.wrong_state.ensures c.if-wrong_state.true

pub loop-i-preserved : goal.loop-i-preserved
loop-i-preserved c = (omega arith, states_more _ _ c.loop-i.invariant.1 c.wrong_state.ensures c.if-wrong_state.false)

pub returns : goal.returns
returns c = states_end _ _ _ c.loop-i.invariant.0 (omega arith) c.loop-i.invariant.1
