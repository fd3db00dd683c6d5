use Rattle.std.proofs.Common.{refl, arith}
use Rattle.grounds.proofs.LongInput.{long_refused}
use Rattle.grounds.proofs.Reading.{reasoned_refused}
use Rattle.grounds.proofs.input.input_reasons.Goals as goal

pub unwrap_err-requires : goal.unwrap_err-requires
unwrap_err-requires c = long_refused c.args.kept.now c.args.size c.judge_input.result c.told-kept (omega (arith, c.if-size.false)) c.judge_input.ensures

pub returns : goal.returns
returns c = λ input k. reasoned_refused (rw c.unwrap_err.ensures at (c.judge_input.ensures input k)) refl
