use Rattle.std.proofs.Common.{eq-eqb, ne_eqb}
use Rattle.definitions.proofs.Offset.{zero_offset}
use Rattle.answer_reader.specs.Fields.{stamp_fits}
use Rattle.answer_reader.proofs.answer.stamp_fits.Goals as goal

pub returns-then-i-eq0 : goal.returns-then-i-eq0
unfolding stamp_fits
returns-then-i-eq0 c = rw (eq-eqb c.args.i 0 c.if-i-eq0.true, zero_offset)

pub returns-else-i-eq0 : goal.returns-else-i-eq0
unfolding stamp_fits
returns-else-i-eq0 c = rw (ne_eqb c.args.i 0 c.if-i-eq0.false) c.blank_or_within.ensures
