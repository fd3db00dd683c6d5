-- Marks of the second list, read from a problem's bytes.
use Prim.Native.Nat.{ℕ, zero, suc, ◌+◌, ◌*◌, ◌≤◌, ◌<◌}
use mathlib.Core.Path.{◌≡◌, refl, sym, subst}
use mathlib.Core.Bool.{not}
use mathlib.Core.List.{List}
use native.Mathlib.Omega.{arith}
use lib.Dec.{eqb}
use lib.ListN.{get_or}
use Rattle.base.specs.Decides.{Decides}
use Rattle.base.proofs.Decides.{decides_as}
use Rattle.definitions.specs.Certificate.{Second, start_of}
use Rattle.definitions.specs.ProblemRecord.{m_field, right_place, problem_of}
use Rattle.definitions.specs.Offset.{trop_of}
use Rattle.problem_records.specs.Tables.{lead_at, right_table, Laid}
use Rattle.problem_records.specs.Filling.{RowOf}
use Rattle.problem_records.proofs.LeadTables.{right_lead, right_lead_means}
use Rattle.reach.specs.Marks.{StartMarked, Anchored}
use Rattle.reach.specs.Spreading.{MarksOf}
use Rattle.reach.proofs.Marks.{anchored_marked, coefficients_marked, coefficients_flags}
use Rattle.strategy_tests.proofs.Counting.{nonzero_decides}
use Rattle.strategy_tests.proofs.Variables.{finite_trop, trop_some}

module _ {s : List ℕ} {n m : ℕ} (l : Laid s n m) where
  -- The lead that stands for the objective's right coefficient.
  lead_is : (at j : ℕ) → at ≡ right_place n m 0 → at + 4 * j ≡ right_place n m j
  lead_is at j e = omega arith

  second_means : (at j : ℕ) → at ≡ right_place n m 0 → j ≤ n → trop_of (lead_at s (at + 4 * j)) ≡ (problem_of s).right (m_field s) j
  second_means at j e h = rw (lead_is at j e) (subst (λ (i : ℕ). trop_of (lead_at s (right_place n m j)) ≡ (problem_of s).right i j) (sym l.m_is) (right_lead_means l m j (omega arith) h))

  -- A variable of the second list has a lead there, and one that has is of the second list.
  pub second_lead : (at j : ℕ) → at ≡ right_place n m 0 → Second (problem_of s) j → (j ≤ n) × (0 < lead_at s (at + 4 * j))
  unfolding problem_of
  second_lead at j e q =
      let h : j ≤ n = omega (arith, q.inside, l.n_is) in
      (h, trop_some (lead_at s (at + 4 * j)) (second_means at j e h) q.right)

  pub lead_second : (at j : ℕ) → at ≡ right_place n m 0 → j ≤ n → 0 < lead_at s (at + 4 * j) → Second (problem_of s) j
  unfolding problem_of
  lead_second at j e h some = record {
    inside = omega (arith, l.n_is);
    right = finite_trop (lead_at s (at + 4 * j)) (second_means at j e h) some;
  }

  -- So the marks of a row of these leads are those of the second list,
  pub seconds_marked : (at : ℕ) (row : List ℕ) {begin : List ℕ} → at ≡ right_place n m 0 → RowOf (λ j. lead_at s (at + 4 * j)) (n + 1) row
      → MarksOf row 32 begin → StartMarked (Second (problem_of s)) (n + 1) begin
  seconds_marked at row e f g = record {
    flags = coefficients_flags row g;
    marked = λ j q. let h = second_lead at j e q in (coefficients_marked {width = n + 1} row g (omega (arith, l.n_most)) j).1 (omega (arith, h.0), rw (f.each j (omega (arith, h.0))) h.1);
    only = λ j b. let h = (coefficients_marked {width = n + 1} row g (omega (arith, l.n_most)) j).0 b in
        lead_second at j e (omega (arith, h.0)) (rw (f.each j h.0) at h.1);
  }

  -- and the test of one lead decides whether its variable is of it.
  pub second_decides : (k : ℕ) → k ≤ n → Decides (Second (problem_of s) k) (not (eqb (get_or (right_table s) (m * 32 + k) 0) 0))
  second_decides k h =
      let at = right_place n m 0 in
      rw (right_lead l m k (omega arith) h, ← lead_is at k refl) (decides_as (lead_second at k refl h) (λ q. (second_lead at k refl q).1) (nonzero_decides (lead_at s (at + 4 * k))))

  -- The two starts of classes 1 and 3.
  pub start_zero : {start : ℕ} {begin : List ℕ} → start ≡ 0 → Anchored begin → StartMarked (start_of (problem_of s) start) (n + 1) begin
  unfolding start_of
  start_zero e a = rw e (anchored_marked a (omega arith))

  pub start_other : (start : ℕ) {begin : List ℕ} → (start ≡ 0 → ⊥) → StartMarked (Second (problem_of s)) (n + 1) begin
      → StartMarked (start_of (problem_of s) start) (n + 1) begin
  unfolding start_of
  start_other zero d m = absurd (d refl)
  start_other (suc k) d m = m
