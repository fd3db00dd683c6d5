use native.Mathlib.Omega.{arith}
use Rattle.merging.proofs.Later.{later_is}
use Rattle.merging.proofs.stamps.later_of.Goals as goal

pub returns : goal.returns
returns c = let p = c.requires in let a = c.args in later_is a.back a.first a.second p.0 p.1 p.3 (omega arith)
