use native.Mathlib.Omega.{arith}
use mathlib.Core.Path.{sym}
use lib.Seq.{length-take-le}
use Rattle.converter.proofs.Answers.{kept_converts, long_refused, long_err}
use Rattle.converter.proofs.input.convert_kept.Goals as goal

pub slice_bounds-convert-end : goal.slice_bounds-convert-end
slice_bounds-convert-end c = sym (length-take-le _ _ (omega arith))

pub returns-then-size-le-KEPT : goal.returns-then-size-le-KEPT
returns-then-size-le-KEPT c = λ input k. kept_converts _ c.convert.ensures input k c.if-size-le-KEPT.true

pub unwrap_err-requires : goal.unwrap_err-requires
unwrap_err-requires c = long_err _ _ c.if-size-le-KEPT.false c.read_header.ensures

pub returns : goal.returns
returns c = λ input k. long_refused k c.if-size-le-KEPT.false c.read_header.ensures c.unwrap_err.ensures
