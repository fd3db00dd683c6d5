use Rattle.std.proofs.Common.{◌≡◌, ◌+◌, ◌*◌, sym, refl, ◌∙◌, arith}
use Rattle.definitions.specs.ProblemRecord.{left_place}
use Rattle.problem_records.proofs.LeadTables.{right_lead_at}
use Rattle.problem_records.proofs.laid.Rows.right.Goals as goal

pub returns : goal.returns
returns c =
    let rows = c.args.self.now in
    let e : c.right_start.result ≡ left_place rows.n c.args.i 0 + 4 * (rows.n + 1) = omega arith in
    rw e at c.lead_in.ensures.0 ∙ sym (right_lead_at rows.laid c.args.i _ c.args.j (omega arith) refl (omega arith))
