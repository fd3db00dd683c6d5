-- Request 2.12 as a theorem: parts of a minute gain nothing. Each class goes one way by stretching plans, the other by rounding.
use Prim.Native.Nat.{ℕ, ◌≤◌}
use mathlib.Core.Path.{◌≡◌, ap, ◌∙◌}
use lib.IntN.{ℤ, pos, ◌*ℤ◌}
use Rattle.definitions.specs.Problem.{Problem, Point, Feasible, Counts, ◌≼◌, whole, value, Attainable, Optimal, Unbounded, Infeasible}
use Rattle.definitions.specs.ProblemRecord.{problem_of}
use Rattle.definitions.specs.Scaling.{scaled, TimesLeast, GainsNothing, PartsGainNothing}
use Rattle.definitions.proofs.Values.{≼_trans, ≼_antisym}
use Rattle.definitions.proofs.Agree.{Agree, agree_sym, agree_optimal, agree_unbounded, agree_infeasible}
use Rattle.definitions.proofs.Scaling.{record_agrees}
use Rattle.scaling.specs.Floor.{floor}
use Rattle.scaling.specs.Plans.{stretched_point, times_value, WholeMinutes}
use Rattle.scaling.proofs.Floor.{times_injective}
use Rattle.scaling.proofs.Plans.{stretched_feasible, stretched_counts, value_stretched, whole_minutes}
use Rattle.scaling.proofs.Spans.{Share, share, times_above, above_times, times_within, within_times, times_infinite, infinite_times}

-- ---- the three classes

module _ (d : ℕ) (p : Problem) (one : 1 ≤ d) where
  -- Least: the plan that shows s, stretched, shows d · s, and no plan in parts of a minute is below.
  pub least_scaled : {s : ℤ} → Optimal p s → Optimal (scaled d p) (pos d *ℤ s)
  unfolding times_value
  least_scaled {s} o =
      record {
        point = stretched_point d o.point;
        feasible = stretched_feasible d p o.feasible;
        counts = stretched_counts d p o.counts;
        value_is = value_stretched d p o.point ∙ ap (times_value d) o.value_is;
        least = λ y f c. let w = whole_minutes d p one f in ≼_trans (times_above d (o.least w.point w.feasible (w.counts c))) w.at_most_is;
      }

  -- A plan that shows a least span u in parts of a minute, rounded, shows its d-th part.
  pub least_shared : {u : ℤ} → Optimal (scaled d p) u → TimesLeast d p u
  least_shared {u} o =
      let w : WholeMinutes d p o.point = whole_minutes d p one o.feasible in
      let e : times_value d (value p w.point) ≡ whole u = ≼_antisym (rw (← o.value_is) w.at_most_is) (no_less w.point w.feasible (w.counts o.counts)) in
      let v : Share d u (value p w.point) = share d (value p w.point) e in
      record {
        span = v.span;
        is = v.is;
        least =
            record {
              point = w.point;
              feasible = w.feasible;
              counts = w.counts o.counts;
              value_is = v.value_is;
              least = λ x f c. above_times d (value p x) one (rw (← v.is) (no_less x f c));
            };
      }
    where
      no_less : (x : Point) → Feasible p x → Counts p x → whole u ≼ times_value d (value p x)
      no_less x f c = rw (← value_stretched d p x) (o.least (stretched_point d x) (stretched_feasible d p f) (stretched_counts d p c))

  pub least_from_scaled : {s : ℤ} → Optimal (scaled d p) (pos d *ℤ s) → Optimal p s
  least_from_scaled {s} o =
      let t : TimesLeast d p (pos d *ℤ s) = least_shared o in
      rw (times_injective d {a = s} {b = t.span} one t.is) t.least

  -- Bottomless.
  pub bottomless_scaled : Unbounded p → Unbounded (scaled d p)
  bottomless_scaled u t =
      let a : Attainable p (floor d t) = u (floor d t) in
      record {
        point = stretched_point d a.point;
        feasible = stretched_feasible d p a.feasible;
        counts = stretched_counts d p a.counts;
        within = rw (value_stretched d p a.point) (times_within d one a.within);
      }

  pub bottomless_from_scaled : Unbounded (scaled d p) → Unbounded p
  bottomless_from_scaled u t =
      let a : Attainable (scaled d p) (pos d *ℤ t) = u (pos d *ℤ t) in
      let w : WholeMinutes d p a.point = whole_minutes d p one a.feasible in
      record {
        point = w.point;
        feasible = w.feasible;
        counts = w.counts a.counts;
        within = within_times d (value p w.point) one (≼_trans w.at_most_is a.within);
      }

  -- None.
  pub none_scaled : Infeasible p → Infeasible (scaled d p)
  none_scaled i y f c =
      let w : WholeMinutes d p y = whole_minutes d p one f in
      ≼_trans (times_infinite d (i w.point w.feasible (w.counts c))) w.at_most_is

  pub none_from_scaled : Infeasible (scaled d p) → Infeasible p
  none_from_scaled i x f c =
      infinite_times d (value p x) (rw (← value_stretched d p x) (i (stretched_point d x) (stretched_feasible d p f) (stretched_counts d p c)))

  pub gains_nothing : GainsNothing d p (scaled d p)
  gains_nothing =
      record {
        least_exactly = λ s. (λ o. least_scaled o, λ o. least_from_scaled o);
        no_other_least = λ u o. least_shared o;
        bottomless_exactly = (bottomless_scaled, bottomless_from_scaled);
        none_exactly = (none_scaled, none_from_scaled);
      }

-- ---- request 2.12

-- A problem that agrees with the scaled one will do.
gains_nothing_agreed : {d : ℕ} {p q r : Problem} → Agree q r → GainsNothing d p q → GainsNothing d p r
gains_nothing_agreed a g =
    record {
      least_exactly = λ s. (λ o. agree_optimal a ((g.least_exactly s).0 o), λ o. (g.least_exactly s).1 (agree_optimal (agree_sym a) o));
      no_other_least = λ u o. g.no_other_least u (agree_optimal (agree_sym a) o);
      bottomless_exactly = (
        λ u. agree_unbounded a (g.bottomless_exactly.0 u),
        λ u. g.bottomless_exactly.1 (agree_unbounded (agree_sym a) u),
      );
      none_exactly = (
        λ i. agree_infeasible a (g.none_exactly.0 i),
        λ i. g.none_exactly.1 (agree_infeasible (agree_sym a) i),
      );
    }

pub parts_gain_nothing : PartsGainNothing
parts_gain_nothing =
    record {
      every_problem = gains_nothing;
      every_record = λ d s t one r. gains_nothing_agreed (record_agrees r) (gains_nothing d (problem_of s) one);
    }
