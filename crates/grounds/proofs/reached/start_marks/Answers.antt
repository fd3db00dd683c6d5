use Rattle.std.proofs.Common.{arith}
use Rattle.grounds.proofs.Reaching.{starts_anchor, starts_second}
use Rattle.grounds.proofs.reached.start_marks.Goals as goal

pub returns-in-0 : goal.returns-in-0
returns-in-0 c = starts_anchor _ c.in-0.is c.anchor.ensures

pub returns-in-1-to-18446744073709551615 : goal.returns-in-1-to-18446744073709551615
returns-in-1-to-18446744073709551615 c = starts_second _ (λ e. omega (arith, c.in-1-to-18446744073709551615)) c.leads.ensures c.marks_of.ensures
