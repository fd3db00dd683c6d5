-- The tables of a problem's bytes hold the problem.
use Rattle.std.proofs.Common.{ℕ, List, arith}
use Rattle.definitions.specs.Problem.{Problem}
use Rattle.definitions.specs.ProblemRecord.{problem_of}
use Rattle.problem_records.specs.Tables.{left_table, right_table, Laid}
use Rattle.problem_records.proofs.LeadTables.{fit_decoded, laid_fit}
use Rattle.records.specs.Decoded.{InTables}
use Rattle.closed_walks.specs.Tables.{Sized}

pub laid_holds : {s : List ℕ} {n m : ℕ} → Laid s n m → InTables (problem_of s) n m (left_table s) (right_table s)
unfolding problem_of
laid_holds {s} l = record { n_is = l.n_is; m_is = l.m_is; decoded = fit_decoded s l.bytes (laid_fit l) }

-- Tables that hold a problem are sized for it.
pub holds_sized : {p : Problem} {left right : List ℕ} {n m : ℕ} → InTables p n m left right → Sized left right n m
holds_sized h =
    record {
      n_most = omega (arith, h.n_is, h.decoded.n_most);
      m_most = omega (arith, h.m_is, h.decoded.m_most);
      left_length = h.decoded.left_length;
      right_length = h.decoded.right_length;
      left_near = h.decoded.left_near;
      right_near = h.decoded.right_near;
    }

pub laid_sized : {s : List ℕ} {n m : ℕ} → Laid s n m → Sized (left_table s) (right_table s) n m
laid_sized l = holds_sized (laid_holds l)
