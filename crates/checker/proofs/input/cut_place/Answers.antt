use Rattle.definitions.proofs.Inputs.{cut_short, cut_past, cut_inside}
use mathlib.Core.Path.{ap, ◌∙◌}
use native.Mathlib.Omega.{arith}
use Prim.Native.Nat.{◌+◌}
use Rattle.checker.proofs.input.cut_place.Goals as goal

pub returns-then-size-lt-LENGTH_BYTES : goal.returns-then-size-lt-LENGTH_BYTES
returns-then-size-lt-LENGTH_BYTES c = record { place = cut_short _ c.if-size-lt-LENGTH_BYTES.true; inside = omega arith }

pub returns-then-size-end : goal.returns-then-size-end
returns-then-size-end c = record { place = cut_past _ c.if-size-lt-LENGTH_BYTES.false (rw c.word_at.ensures.0 at c.if-size-end.true); inside = omega arith }

pub returns : goal.returns
returns c = record { place = ap (λ k. k + 4) c.word_at.ensures.0 ∙ cut_inside _ c.if-size-lt-LENGTH_BYTES.false (rw c.word_at.ensures.0 at c.if-size-end.false); inside = omega arith }
