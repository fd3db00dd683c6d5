-- The class and the least span of a selection: those of the problem where the same plans keep the rules (`same_plans`); with fewer rules
-- spans can only fall (`attainable_selected` and what follows), so that a class shown of both is shown to be the same.
use Prim.Native.Nat.{ℕ}
use mathlib.Core.Path.{◌≡◌, sym, subst, ◌∙◌}
use lib.IntN.{ℤ}
use Rattle.definitions.specs.Problem as Problems
use Rattle.definitions.specs.Problem.{Problem, Point, Feasible, Counts, value, Attainable, Optimal, Unbounded, Infeasible}
use Rattle.definitions.specs.Selection.{selected, Choice, LeftOutKept, SameClass}
use Rattle.definitions.proofs.Counts.{whole_counts}
use Rattle.duality.proofs.Classes.{Least, optimal_unique, infeasible_not_unbounded, infeasible_not_optimal, unbounded_not_optimal}
use Rattle.selection.proofs.Plans.{feasible_selected, feasible_all, counted_selected, value_selected}

-- ---- the same plans

-- Let each plan that keeps the rules of p and counts keep those of q and count, and have the same span in both. What is attainable in p is
-- attainable in q, and what no plan of q is below, no plan of p is.
abbrev Plans : Problem → Problem → Type 0
Plans p q = ((x : Point) → Feasible p x → Feasible q x) × ((x : Point) → Counts p x → Counts q x)

module _ {p q : Problem} (plans : Plans p q) (spans : (x : Point) → value q x ≡ value p x) where
  pub attainable_more : {t : ℤ} → Attainable p t → Attainable q t
  attainable_more {t} a =
      record {
        point = a.point;
        feasible = plans.0 a.point a.feasible;
        counts = plans.1 a.point a.counts;
        within = rw (spans a.point) a.within;
      }

  pub unbounded_more : Unbounded p → Unbounded q
  unbounded_more u t = attainable_more (u t)

  pub infeasible_fewer : Infeasible q → Infeasible p
  infeasible_fewer i x h c = rw (spans x) at (i x (plans.0 x h) (plans.1 x c))

  pub least_fewer : {s : ℤ} → Least q s → Least p s
  least_fewer least y h c = rw (spans y) at (least y (plans.0 y h) (plans.1 y c))

-- Exactly the same plans: the same class and least span.
pub same_plans : {p q : Problem} → Plans p q → Plans q p → ((x : Point) → value q x ≡ value p x) → SameClass p q
same_plans {p} {q} on back spans =
    record {
      least_exactly = λ s. (optimal on back spans, optimal back on (λ x. sym (spans x)));
      bottomless_exactly = (unbounded_more on spans, unbounded_more back (λ x. sym (spans x)));
      none_exactly = (infeasible_fewer back (λ x. sym (spans x)), infeasible_fewer on spans);
    }
  where
    optimal : {a b : Problem} {s : ℤ} → Plans a b → Plans b a → ((x : Point) → value b x ≡ value a x) → Optimal a s → Optimal b s
    optimal on back spans o =
        record {
          point = o.point;
          feasible = on.0 o.point o.feasible;
          counts = on.1 o.point o.counts;
          value_is = spans o.point ∙ o.value_is;
          least = least_fewer back (λ x. sym (spans x)) o.least;
        }

-- ---- a class shown of both

pub both_optimal : {p q : Problem} {s : ℤ} → Optimal p s → Optimal q s → SameClass p q
both_optimal {p} {q} {s} a b =
    record {
      least_exactly = λ u. (λ o. subst (Optimal q) (optimal_unique p s u a o) b, λ o. subst (Optimal p) (optimal_unique q s u b o) a);
      bottomless_exactly = (
        λ u. absurd (unbounded_not_optimal p u (record { at = s; optimal = a })),
        λ u. absurd (unbounded_not_optimal q u (record { at = s; optimal = b })),
      );
      none_exactly = (
        λ i. absurd (infeasible_not_optimal p i (record { at = s; optimal = a })),
        λ i. absurd (infeasible_not_optimal q i (record { at = s; optimal = b })),
      );
    }

pub both_infeasible : {p q : Problem} → Infeasible p → Infeasible q → SameClass p q
both_infeasible {p} {q} a b =
    record {
      least_exactly = λ u. (
        λ o. absurd (infeasible_not_optimal p a (record { at = u; optimal = o })),
        λ o. absurd (infeasible_not_optimal q b (record { at = u; optimal = o })),
      );
      bottomless_exactly = (λ u. absurd (infeasible_not_unbounded p a u), λ u. absurd (infeasible_not_unbounded q b u));
      none_exactly = (λ i. b, λ i. a);
    }

-- ---- selections

-- Fewer rules: what is attainable stays so, and what no plan reaches with fewer rules none reaches with all.
module _ {p : Problem} {f : ℕ → ℕ} {m' : ℕ} (c : Choice p f m') where
  fewer : Plans p (selected p f m')
  fewer = (λ x. feasible_selected c, λ x. (counted_selected p f m').0)

  pub attainable_selected : {t : ℤ} → Attainable p t → Attainable (selected p f m') t
  attainable_selected = attainable_more fewer (value_selected p f m')

  pub unbounded_selected : Unbounded p → Unbounded (selected p f m')
  unbounded_selected = unbounded_more fewer (value_selected p f m')

  pub infeasible_all : Infeasible (selected p f m') → Infeasible p
  infeasible_all = infeasible_fewer fewer (value_selected p f m')

  -- A plan that keeps all rules and has the least span of the selection shows it to be that of p.
  pub optimal_all : {s : ℤ} {x : Point} → Feasible p x → value p x ≡ Problems.whole s → Optimal (selected p f m') s → Optimal p s
  optimal_all {s} {x} h v o =
      record { point = x; feasible = h; counts = whole_counts v; value_is = v; least = least_fewer fewer (value_selected p f m') o.least }

  -- Where every plan keeps the rules left out, class and least span are the same.
  pub class_selected : LeftOutKept p f m' → SameClass p (selected p f m')
  class_selected kept = same_plans fewer (λ x. feasible_all kept, λ x. (counted_selected p f m').1) (value_selected p f m')
