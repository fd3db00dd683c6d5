-- Problems that agree in their rows and variables accept the same certificates, of tables whose picks are none above the highest. From
-- any two starts, where what begins in the second problem begins in the first and is one of its variables.
use Prim.Native.Nat.{ℕ, suc, ◌≤◌}
use mathlib.Core.Path.{◌≡◌, sym, subst, ◌∙◌}
use native.Mathlib.Omega.{arith}
use lib.IntN.{ℤ, pos, ◌-ℤ◌}
use Rattle.definitions.specs.Tropical.{Finite}
use Rattle.definitions.specs.Problem.{Problem, Point}
use Rattle.definitions.specs.Certificate.{Strategy, raise, ArcBy, Leads, Arc, PicksCount, RowLeads, RowArc, AcceptedOptimal, AcceptedInfeasible, AcceptedUnbounded}
use Rattle.definitions.proofs.Agree.{Agree, agree_feasible, agree_value}
use Rattle.duality.specs.Picks.{NoneAbove}
use Rattle.duality.proofs.Reach.{reach_keep}
use Rattle.duality.proofs.CycleMaps.{cycle_keep, unused_keep}

module _ {p q : Problem} (a : Agree p q) where
  -- An arc by a row of the second is one of the first.
  raised_alike : (t : ℤ) (i : ℕ) → raise q t i ≡ raise p t i
  unfolding raise
  raised_alike t i = rw a.same_m

  by_back : {t : ℤ} {i j l : ℕ} {w : ℤ} → i ≤ p.m → j ≤ p.n → l ≤ p.n → ArcBy q t i j l w → ArcBy p t i j l w
  by_back {t} {i} {j} {l} h g k r = record {
    a = r.a;
    b = r.b;
    left_is = a.left i j h g ∙ r.left_is;
    right_is = a.right i l h k ∙ r.right_is;
    weighs = rw (← raised_alike t i) r.weighs;
  }

  finite_back : {i j : ℕ} → i ≤ p.m → j ≤ p.n → Finite (q.left i j) → Finite (p.left i j)
  finite_back {i} {j} h g r = subst Finite (sym (a.left i j h g)) r

  module _ {Start Start' : ℕ → Type 0} (begins : (j : ℕ) → Start' j → Start j × (j ≤ p.n)) (picks : Strategy) where
    -- ---- classes 1 and 3

    module _ (above : NoneAbove (suc p.m) (suc p.n) picks) where
      inside : (j i : ℕ) → j ≤ p.n → picks j ≡ suc i → i ≤ p.m
      inside j i h e = omega (arith, above j (omega arith))

      leads_back : (j l : ℕ) → j ≤ p.n → Leads q picks j l → Leads p picks j l × (l ≤ p.n)
      leads_back j l h r =
          let l-in : l ≤ p.n = rw a.same_n r.inside in (
            record { row = r.row; picked = r.picked; inside = l-in; right = subst Finite (sym (a.right r.row l (inside j r.row h r.picked) l-in)) r.right },
            l-in,
          )

      arc_back : (t : ℤ) (j l : ℕ) (w : ℤ) → j ≤ p.n → Arc q picks t j l w → Arc p picks t j l w × (l ≤ p.n)
      arc_back t j l w h r =
          let l-in : l ≤ p.n = rw a.same_n r.inside in
          (record { row = r.row; picked = r.picked; inside = l-in; by = by_back (inside j r.row h r.picked) h l-in r.by }, l-in)

      counts_over : PicksCount Start p picks → PicksCount Start' q picks
      counts_over c j r =
          let s = reach_keep (λ j. j ≤ p.n) begins leads_back r in
          let h = c j s.0 in
          record { row = h.row; picked = h.picked; left = subst Finite (a.left h.row j (inside j h.row s.1 h.picked) s.1) h.left }

      pub optimal_over : {s : ℤ} {x : Point} → AcceptedOptimal Start p s x picks → AcceptedOptimal Start' q s x picks
      optimal_over {s} {x} c = record {
        feasible = agree_feasible a c.feasible;
        value_is = sym (agree_value x a) ∙ c.value_is;
        picks_count = counts_over c.picks_count;
        below_zero = λ w k. c.below_zero w (cycle_keep (λ j. j ≤ p.n) begins leads_back (arc_back (s -ℤ pos 1)) k);
      }

      pub infeasible_over : AcceptedInfeasible Start p picks → AcceptedInfeasible Start' q picks
      unfolding arc_back
      infeasible_over c = record {
        picks_count = counts_over c.picks_count;
        no_objective = unused_keep (λ j. j ≤ p.n) begins leads_back (arc_back (pos 0)) (λ j l w r. r.row ≡ q.m) (λ j l w r. r.row ≡ p.m) (λ j l w h r e. e ∙ sym a.same_m) c.no_objective;
        below_zero = λ w k. c.below_zero w (cycle_keep (λ j. j ≤ p.n) begins leads_back (arc_back (pos 0)) k);
      }

    -- ---- class 2

    module _ (above : NoneAbove (suc p.n) (suc p.m) picks) where
      row_inside : (i l : ℕ) → i ≤ p.m → picks i ≡ suc l → l ≤ p.n
      row_inside i l h e = omega (arith, above i (omega arith))

      row_leads_back : (j l : ℕ) → j ≤ p.n → RowLeads q picks j l → RowLeads p picks j l × (l ≤ p.n)
      row_leads_back j l h r =
          let i-in : r.row ≤ p.m = rw a.same_m r.inside in
          (record { row = r.row; inside = i-in; left = finite_back i-in h r.left; picked = r.picked }, row_inside r.row l i-in r.picked)

      row_arc_back : (t : ℤ) (j l : ℕ) (w : ℤ) → j ≤ p.n → RowArc q picks t j l w → RowArc p picks t j l w × (l ≤ p.n)
      row_arc_back t j l w h r =
          let i-in : r.row ≤ p.m = rw a.same_m r.inside in
          let l-in = row_inside r.row l i-in r.picked in
          (record { row = r.row; inside = i-in; picked = r.picked; by = by_back i-in h l-in r.by }, l-in)

      pub unbounded_over : AcceptedUnbounded Start p picks → AcceptedUnbounded Start' q picks
      unfolding row_arc_back
      unbounded_over c = record {
        picks_count = λ i j h r l.
            let i-in : i ≤ p.m = rw a.same_m h in
            let s = reach_keep (λ j. j ≤ p.n) begins row_leads_back r in
            let k = c.picks_count i j i-in s.0 (finite_back i-in s.1 l) in
            record { variable = k.variable; picked = k.picked; right = subst Finite (a.right i k.variable i-in (row_inside i k.variable i-in k.picked)) k.right };
        no_objective = unused_keep (λ j. j ≤ p.n) begins row_leads_back (row_arc_back (pos 0)) (λ j l w r. r.row ≡ q.m) (λ j l w r. r.row ≡ p.m) (λ j l w h r e. e ∙ sym a.same_m) c.no_objective;
        zero_or_more = λ w k. c.zero_or_more w (cycle_keep (λ j. j ≤ p.n) begins row_leads_back (row_arc_back (pos 0)) k);
      }
