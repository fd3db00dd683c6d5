use Rattle.std.proofs.Common.{refl}
use Rattle.definitions.specs.ProblemRecord.{header_outcome, header_refusal}
use Rattle.records.proofs.problem.read_header.Goals as goal

pub returns : goal.returns
unfolding header_outcome header_refusal
returns c = let a = c.fields_at.ensures in rw (c.judge.ensures, a.length_is, a.kind_is, a.n_is, a.m_is, a.count_is) refl
