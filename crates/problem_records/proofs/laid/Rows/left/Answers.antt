use Rattle.std.proofs.Common.{sym, ◌∙◌, arith}
use Rattle.problem_records.proofs.LeadTables.{left_lead_at}
use Rattle.problem_records.proofs.laid.Rows.left.Goals as goal

pub returns : goal.returns
returns c = c.lead_in.ensures.0 ∙ sym (left_lead_at c.args.self.now.laid c.args.i _ c.args.j (omega arith) c.left_start.ensures (omega arith))
