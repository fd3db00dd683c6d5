use Rattle.verdict.proofs.Lines.{line_put}
use Rattle.verdict.proofs.put_line.Goals as goal

pub returns-in-Ok : goal.returns-in-Ok
returns-in-Ok c = rw c.in-Ok.is (line_put _ c.requires (c.write_accepted.ensures.shown, c.write_accepted.ensures.short))

pub returns-in-Err : goal.returns-in-Err
returns-in-Err c = rw c.in-Err.is (line_put _ c.requires (rw c.number.ensures at c.write_turned_away.ensures.shown, rw c.number.ensures at c.write_turned_away.ensures.short))
