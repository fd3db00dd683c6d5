use native.Mathlib.Omega.{arith}
use Rattle.search.proofs.Halves.{halving_start, halving_few, halving_on, halving_falls, halving_end, wider}
use Rattle.search.proofs.search.halve.Goals as goal

pub halving-init : goal.halving-init
halving-init c = halving_start c.requires.1 c.requires.2

pub overflow_add-trials : goal.overflow_add-trials
overflow_add-trials c = omega (arith, halving_few c.halving.invariant)

pub halving-smaller : goal.halving-smaller
halving-smaller c = search (halving_falls, wider)

pub halving-preserved : goal.halving-preserved
halving-preserved c = search (halving_on, wider)

pub returns : goal.returns
returns c = search halving_end
