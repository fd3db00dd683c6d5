use Rattle.std.proofs.Common.{arith}
use Rattle.std.proofs.lemmas.Bool.Decides.{nat_tests}
use Rattle.guarantees.proofs.OwnAnswers.{never_refused, reads_there, idle_there, own_there}
use Rattle.guarantees.proofs.own.read_own.Goals as goal

pub returns-then-is_empty : goal.returns-then-is_empty
returns-then-is_empty c = λ w. idle_there c.args.problem.now _ (grind (arith, nat_tests)) c.read_answer.ensures

pub returns-in_err-layout : goal.returns-in_err-layout
returns-in_err-layout c = let p = c.args.problem.now in own_there p _ (grind (arith, nat_tests)) (never_refused p c.read_header.ensures c.in_err-layout.was)

pub returns : goal.returns
returns c = let p = c.args.problem.now in own_there p _ (grind (arith, nat_tests)) (reads_there p _ c.read_header.ensures c.in_ok-layout.was c.read_answer-2.ensures)
