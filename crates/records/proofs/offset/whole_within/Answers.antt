use Rattle.std.proofs.Common.{◌-◌, arith}
use borrow.Author.Tests.{lt-leb}
use Rattle.records.proofs.Within.{whole_low, whole_high}
use Rattle.records.proofs.offset.whole_within.Goals as goal

pub returns-then-limit-k : goal.returns-then-limit-k
returns-then-limit-k c = search whole_high

pub returns-else-limit-k : goal.returns-else-limit-k
returns-else-limit-k c = let a = c.args in
    rw (lt-leb (2147483648 - a.limit) a.k (omega arith)) (whole_low a.limit a.k c.requires (omega arith))
