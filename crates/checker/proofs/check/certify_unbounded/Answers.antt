use Rattle.std.proofs.Common.{ℕ, List, arith, rules}
use Rattle.definitions.specs.ProblemRecord.{problem_of}
use Rattle.records.specs.Decoded.{InTables}
use Rattle.problem_records.specs.Tables.{Laid}
use Rattle.problem_records.specs.Filling.{Tabled}
use Rattle.problem_records.proofs.ReadProblem.{laid_framed, left_tabled, right_tabled}
use Rattle.closed_walks.proofs.Holding.{laid_holds, holds_sized}
use Rattle.checker.proofs.Acceptance.{lowest_trial_is, unbounded_at, begins_inside}
use Rattle.checker.proofs.check.certify_unbounded.Goals as goal

-- Tables that were filled from the bytes of a problem hold it.
tables_held : {s : List ℕ} {n m : ℕ} {left right : List ℕ} → Laid s n m → Tabled s n m 2048 left right → InTables (problem_of s) n m left right
tables_held l t = rw (left_tabled l t, right_tabled l t) (laid_holds l)

pub read_tables-requires : goal.read_tables-requires
read_tables-requires c = laid_framed c.args.rows.now.laid (search rules) (search rules)

pub invariant_of-tables : goal.invariant_of-tables
invariant_of-tables c = record { sized = holds_sized (tables_held c.args.rows.now.laid c.read_tables.ensures) }

pub certify_rows-requires : goal.certify_rows-requires
certify_rows-requires c = (record { some = omega arith; near = record { hi = omega arith; lo = λ _. omega arith } }, c.requires.0, c.requires.1)

pub returns : goal.returns
returns c = let held = tables_held c.args.rows.now.laid c.read_tables.ensures in
    unbounded_at held (begins_inside held) c.requires.0 (c.certify_rows.ensures _ _ held lowest_trial_is)
