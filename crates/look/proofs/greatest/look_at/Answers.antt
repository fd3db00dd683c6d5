use native.Mathlib.Omega.{arith}
use Rattle.look.proofs.Tables.{level_caps, set_caps}
use Rattle.look.proofs.Looking.{looked_none, looked_capped}
use Rattle.look.proofs.greatest.look_at.Goals as goal

pub greatest_under-free-requires : goal.greatest_under-free-requires
greatest_under-free-requires c = let p = c.requires in (p, rw c.level_caps.ensures (level_caps _ (omega (arith, p.coefficients.n_most))))

pub returns-then-free-eq0 : goal.returns-then-free-eq0
returns-then-free-eq0 c = looked_none (rw c.level_caps.ensures at c.greatest_under-free.ensures) c.if-free-eq0.true

pub greatest_under-requires : goal.greatest_under-requires
greatest_under-requires c = let p = c.requires in (p, set_caps _ p.coefficients.lefts c.caps_of.ensures (omega (arith, p.coefficients.n_most)))

pub returns : goal.returns
returns c = looked_capped c.requires.coefficients (rw c.level_caps.ensures at c.greatest_under-free.ensures) c.if-free-eq0.false c.caps_of.ensures c.greatest_under.ensures
