use native.Mathlib.Omega.{arith}
use mathlib.Core.Path.{ap}
use Rattle.records.specs.Classes.{class_number}
use Rattle.class_answers.proofs.Points.{all_rows, point_ranged, point_anchored}
use Rattle.class_answers.proofs.Optimal.{span_trialled, optimal_answer}
use Rattle.class_answers.proofs.answer.Tried.optimal.Goals as goal

pub point_at-point-requires : goal.point_at-point-requires
point_at-point-requires c = let k = c.requires.0 in all_rows k.ready (span_trialled k.found_by (ap class_number c.requires.1)) c.raise.ensures

pub stamps-requires : goal.stamps-requires
stamps-requires c = let k = c.requires.0 in
    let t = span_trialled k.found_by (ap class_number c.requires.1) in (
      point_ranged k.ready t c.raise.ensures c.point_at-point.ensures,
      point_anchored k.ready t c.raise.ensures c.point_at-point.ensures,
      omega (arith, k.ready.coefficients.n_most),
    )

pub returns : goal.returns
returns c = let k = c.requires.0 in
    optimal_answer k.ready k.looked k.found_by c.requires.1 c.raise.ensures c.point_at-point.ensures c.shown.ensures c.stamps.ensures
