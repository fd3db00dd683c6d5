use mathlib.Core.Path.{◌≡◌}
use Rattle.std.proofs.Common.{arith}
use Rattle.definitions.specs.Verdict.{not_certified}
use Rattle.definitions.specs.Programs.{text_not_certified}
use Rattle.printing.proofs.Printing.{verdict_uncertified, verdict_refused}
use Rattle.printing.proofs.lines.turned_away_line.Goals as goal

pub returns-then-number : goal.returns-then-number
unfolding text_not_certified
returns-then-number c =
    let e : c.args.number ≡ not_certified = omega (arith, c.if-number.true, c.number.ensures) in
    (rw e (verdict_uncertified c.copy.ensures), omega arith)

pub returns-else-number : goal.returns-else-number
returns-else-number c = (verdict_refused _ c.refused_line.ensures.0 (λ e. c.if-number.false (omega (arith, e, c.number.ensures))), omega arith)
