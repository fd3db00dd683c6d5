use Rattle.std.proofs.Common.{arith}
use borrow.Author.Tests.{lt-leb}
use Rattle.records.proofs.Tests.{tests}
use Rattle.problem_records.proofs.Leads.{lead_offset, lead_early, lead_late}
use Rattle.problem_records.proofs.reader.lead_fits.Goals as goal

pub returns-then-k-eq0 : goal.returns-then-k-eq0
returns-then-k-eq0 c = search (tests, lead_offset _ _ c.requires c.offset_32-k.ensures.0)

pub returns-then-k : goal.returns-then-k
returns-then-k c = lead_late c.requires c.offset_32-k.ensures.0 (omega arith) (omega arith)

pub returns-else-k : goal.returns-else-k
returns-else-k c = rw (lt-leb 2147463488 c.offset_32-k.result (omega arith)) (lead_early c.requires c.offset_32-k.ensures.0 (omega arith) (omega arith))
