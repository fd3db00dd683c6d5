use Rattle.std.proofs.Common.{arith}
use Rattle.definitions.specs.Reasons.{text_rules, text_round}
use Rattle.reasons.proofs.Shown.{shown_refused, shown_none, shown_least}
use Rattle.reasons.proofs.lines.put_lines.Goals as goal

pub returns-in-Err-clause-lines_are : goal.returns-in-Err-clause-lines_are
returns-in-Err-clause-lines_are c = rw c.in-Err.is (shown_refused c.requires c.in-Err.number (omega arith) c.write_turned_away.ensures.shown c.write_turned_away.ensures.short).1

pub returns-in-None-clause-lines_are : goal.returns-in-None-clause-lines_are
unfolding text_rules
returns-in-None-clause-lines_are c = rw (c.in-Ok.is, c.in-None.is) (shown_none c.requires _ (rw c.as_slice.ensures.0 at c.put_line-next.ensures.0) (omega (arith, c.put_line-next.ensures.1, c.as_slice.ensures.1)))

pub returns-in-Some-clause-lines_are : goal.returns-in-Some-clause-lines_are
unfolding text_rules text_round
returns-in-Some-clause-lines_are c = rw (c.in-Ok.is, c.in-Some.is) (shown_least c.requires _ _ (rw c.as_slice.ensures.0 at c.put_line-next.ensures.0) (rw c.as_slice-in-Some.ensures.0 at c.put_line.ensures.0) (omega (arith, c.put_line-next.ensures.1, c.as_slice.ensures.1, c.put_line.ensures.1, c.as_slice-in-Some.ensures.1)))
