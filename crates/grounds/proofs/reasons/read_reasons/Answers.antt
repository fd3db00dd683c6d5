use Rattle.definitions.specs.Bytes.{Bytes}
use Rattle.definitions.specs.ProblemRecord.{problem_of, meant}
use Rattle.definitions.specs.Verdict.{answer_for}
use Rattle.definitions.proofs.IdleDay.{meant_bytes}
use Rattle.grounds.proofs.Reading.{header_stands, answer_stands, certifies, reasoned_told}
use Rattle.grounds.proofs.reasons.read_reasons.Goals as goal

pub returns-in_err-layout : goal.returns-in_err-layout
returns-in_err-layout c = absurd (header_stands c.requires _ c.in_err-layout.ensures.result)

pub returns-in_err-head : goal.returns-in_err-head
returns-in_err-head c = let problem : Bytes c.args.problem.now = record { byte = λ i. (c.type_inv.problem i).fits } in
    absurd (answer_stands c.requires (meant_bytes _ problem) c.read_problem.ensures c.in_ok-layout.was _ c.in_err-head.ensures.answered)

pub tell-requires : goal.tell-requires
tell-requires c = let problem : Bytes c.args.problem.now = record { byte = λ i. (c.type_inv.problem i).fits } in
    let answer : Bytes c.args.answer.now = record { byte = λ i. (c.type_inv.answer i).fits } in
    record {
      problem = problem_of (meant c.args.problem.now);
      answer = answer_for (meant c.args.problem.now) c.args.answer.now;
      certifies = certifies c.requires (meant_bytes _ problem) c.read_problem.ensures c.in_ok-layout.was answer c.read_answer.ensures c.in_ok-head.was;
    }

pub returns : goal.returns
returns c = let problem : Bytes c.args.problem.now = record { byte = λ i. (c.type_inv.problem i).fits } in
    let answer : Bytes c.args.answer.now = record { byte = λ i. (c.type_inv.answer i).fits } in
    reasoned_told c.requires (c.tell.ensures _ _ (certifies c.requires (meant_bytes _ problem) c.read_problem.ensures c.in_ok-layout.was answer c.read_answer.ensures c.in_ok-head.was))
