use native.Mathlib.Omega.{arith}
use Rattle.class_answers.proofs.Shared.{lowest_trialled}
use Rattle.class_answers.proofs.Points.{all_rows, right_raised, point_ranged}
use Rattle.class_answers.proofs.Unbounded.{second_some, unbounded_answer}
use Rattle.class_answers.proofs.answer.Tried.unbounded.Goals as goal

pub point_at-point-requires : goal.point_at-point-requires
point_at-point-requires c = all_rows c.requires.0.ready lowest_trialled c.raise.ensures

pub induced-targets-requires : goal.induced-targets-requires
induced-targets-requires c = let k = c.requires.0 in let y = k.ready.coefficients in (
  omega (arith, y.n_most),
  omega (arith, y.m_most),
  right_raised k.ready lowest_trialled c.raise.ensures,
  point_ranged k.ready lowest_trialled c.raise.ensures c.point_at-point.ensures,
)

pub unwrap-k-requires : goal.unwrap-k-requires
unwrap-k-requires c = let k = c.requires.0 in
    second_some k.ready k.looked k.found_by c.requires.1 c.raise.ensures c.point_at-point.ensures c.induced-targets.ensures c.row_of.ensures _ c.second_met-second.ensures

pub returns : goal.returns
returns c = let k = c.requires.0 in
    let met = rw c.unwrap-k.ensures at c.second_met-second.ensures in
    unbounded_answer k.ready k.looked k.found_by c.requires.1 c.raise.ensures c.point_at-point.ensures c.induced-targets.ensures c.row_of.ensures met.1 c.anchor_and.ensures c.row_picks-picks.ensures
