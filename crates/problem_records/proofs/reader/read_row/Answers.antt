use Rattle.std.proofs.Common.{◌≡◌, arith, refl}
use Rattle.base.proofs.Copied.{run_copied}
use Rattle.problem_records.proofs.Tables.{filled_row}
use Rattle.problem_records.proofs.reader.read_row.Goals as goal

pub returns : goal.returns
returns c = let row = c.copy_from_slice.new.self in
    let same : row ≡ c.leads_of.result = c.copy_from_slice.ensures.after in
    filled_row _ _ _ c.leads_of.ensures (run_copied c.args.table.now row (omega arith) (rw same c.leads_of.ensures.size_is) (omega arith) (λ l h. rw same refl))
