use native.Mathlib.Omega.{arith}
use mathlib.Core.Bool.{false}
use mathlib.Core.Logic.{⊎_elim}
use mathlib.Core.Path.{◌≡◌}
use Rattle.std.proofs.lemmas.Bool.Decides.{nat_tests}
use Rattle.definitions.specs.Week.{odd, too_many_windows}
use Rattle.opening_hours.specs.Lookup.{fits, bad}
use Rattle.opening_hours.proofs.Lists.{pair_is, fits_more, fits_all, fits_good, window_bad}
use Rattle.opening_hours.proofs.list.list_fits.Goals as goal

pub returns-then-not-is_empty : goal.returns-then-not-is_empty
returns-then-not-is_empty c = bad (⊎_elim
    (λ (e : c.is_empty.result ≡ false). odd (grind (arith, nat_tests)))
    (λ h. too_many_windows (omega (arith, h.1)))
    c.then-not-is_empty.either)

pub returns-then-opening-last : goal.returns-then-opening-last
returns-then-opening-last c =
    let p = pair_is c.args.week.now c.loop-opening.opening-index c.as_chunks.ensures.front (omega arith) in
    bad (window_bad c.loop-opening.invariant (omega arith) (simp (p.opens, p.closes) at c.then-opening-last.either))

pub loop-opening-preserved : goal.loop-opening-preserved
loop-opening-preserved c =
    let p = pair_is c.args.week.now c.loop-opening.opening-index c.as_chunks.ensures.front (omega arith) in
    rw p.closes (fits_more c.loop-opening.invariant (omega arith) (omega arith) (omega arith) (omega arith))

pub returns : goal.returns
returns c = fits (fits_good (fits_all c.loop-opening.invariant (omega arith) (grind (arith, nat_tests)) (omega arith)))
