use native.Mathlib.Omega.{arith}
use Rattle.desk_words.proofs.Back.{passed_none, passed_more, passed_found}
use Rattle.desk_words.proofs.stored.place_with.Goals as goal

pub loop-i-init : goal.loop-i-init
loop-i-init c = passed_none _ _

pub returns-then-words-i : goal.returns-then-words-i
returns-then-words-i c = passed_found c.loop-i.invariant c.loop-i-test.true (omega (arith, c.if-words-i.true))

pub loop-i-preserved : goal.loop-i-preserved
loop-i-preserved c = passed_more c.loop-i.invariant c.loop-i-test.true (λ e. c.if-words-i.false (omega (arith, e)))
