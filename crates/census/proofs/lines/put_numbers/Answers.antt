use Rattle.std.proofs.Common.{◌-◌, ◌≡◌, length, arith}
use lib.Seq.{length-take-le, get_or-take}
use Rattle.census.proofs.Printed.{put_none, put_more, put_all}
use Rattle.census.proofs.lines.put_numbers.Goals as goal

pub loop-number-init : goal.loop-number-init
loop-number-init c = put_none _ _

pub put_spaced-at-requires : goal.put_spaced-at-requires
put_spaced-at-requires c = let long = length-take-le (length c.args.numbers.now - 1) c.args.numbers.now (omega arith) in omega arith

pub loop-number-preserved : goal.loop-number-preserved
loop-number-preserved c =
    let long = length-take-le (length c.args.numbers.now - 1) c.args.numbers.now (omega arith) in
    put_more c.loop-number.invariant (omega arith)
    (rw (get_or-take (length c.args.numbers.now - 1) c.args.numbers.now c.loop-number.number-index 0 (omega arith)) at c.put_spaced-at.ensures.0)
    c.put_spaced-at.ensures.1

pub returns : goal.returns
returns c =
    let long = length-take-le (length c.args.numbers.now - 1) c.args.numbers.now (omega arith) in
    let all : length c.args.numbers.now - 1 ≡ c.loop-number.number-index = omega arith in
    (put_all c.loop-number.invariant (omega arith) (omega arith) (rw all at c.put_decimal-next.ensures.0) c.copy.ensures, omega arith)
