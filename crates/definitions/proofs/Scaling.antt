-- Scaled problems: a record whose leads are d times those of another means the scaled problem, as far as a problem is read; E in
-- half minutes; with d = 1 nothing changes. (That parts of a minute gain nothing is proved in `scaling`.)
use Prim.Native.Nat.{ℕ, zero, suc, ◌+◌, ◌*◌, ◌<◌}
use mathlib.Core.Path.{◌≡◌, refl, sym}
use mathlib.Core.List.{List, [], ◌∷◌, map}
use native.Mathlib.Omega.{arith}
use lib.IntN.{ℤ, pos, negsuc, ◌*ℤ◌}
use Rattle.definitions.specs.Limits.{problem_header, signed_bytes}
use Rattle.definitions.specs.Problem.{Problem}
use Rattle.definitions.specs.Bytes.{num_at, nums_at, trop_field, trop_at, signed}
use Rattle.definitions.specs.ProblemRecord.{n_field, m_field, leads_of, left_place, right_place, problem_of}
use Rattle.definitions.specs.Scaling.{times, scaled, GainsNothing, ScaledRecord}
use Rattle.definitions.specs.Examples.{example_e}
use Rattle.definitions.proofs.Whole.{whole, neg_read}
use Rattle.definitions.proofs.Layouts.{lead_inside, leads_one}
use Rattle.definitions.proofs.Agree.{Agree}

-- Field by field: where the leads of a run are d times those of another, each is.
run_scaled :
    (d k count : ℕ) (s t : List ℕ) (at : ℕ) → map trop_field (nums_at k count t at) ≡ map (times d) (map trop_field (nums_at k count s at))
    → (i : ℕ) → i < count → trop_field (num_at k t (at + k * i)) ≡ times d (trop_field (num_at k s (at + k * i)))
unfolding nums_at
run_scaled d k zero s t at e i h = absurd (omega arith)
run_scaled d k (suc count) s t at e zero h =
    let place : at + k * 0 ≡ at = omega arith in
    rw place cc
run_scaled d k (suc count) s t at e (suc i) h =
    let place : (at + k) + k * i ≡ at + k * suc i = omega arith in
    let rest : map trop_field (nums_at k count t (at + k)) ≡ map (times d) (map trop_field (nums_at k count s (at + k))) = cc in
    rw place at (run_scaled d k count s t (at + k) rest i (omega arith))

module _ {d : ℕ} {s t : List ℕ} (r : ScaledRecord d s t) where
  -- Each lead is d times the lead there.
  lead_scaled :
      (k : ℕ) → k < 2 * (suc (n_field s) * suc (m_field s))
      → trop_at t (problem_header + signed_bytes * k) ≡ times d (trop_at s (problem_header + signed_bytes * k))
  unfolding trop_at
  lead_scaled k h =
      run_scaled d signed_bytes (2 * (suc (n_field s) * suc (m_field s))) s t problem_header
      (rw (leads_one t r.kind, leads_one s r.of_kind, r.same_n, r.same_m) at r.leads) k h

  pub record_agrees : Agree (scaled d (problem_of s)) (problem_of t)
  unfolding problem_of
  record_agrees =
      record {
        same_n = sym r.same_n;
        same_m = sym r.same_m;
        left = λ i j row column.
            let k : ℕ = 2 * (i * suc (n_field s)) + j in
            let place : problem_header + signed_bytes * (2 * (i * suc (n_field s)) + j) ≡ left_place (n_field s) i j = omega arith in
            let e = lead_scaled k (lead_inside (n_field s) (m_field s) i j row (omega arith)) in
            rw (r.kind, r.of_kind, r.same_n) (sym (rw place at e));
        right = λ i j row column.
            let k : ℕ = 2 * (i * suc (n_field s)) + (suc (n_field s) + j) in
            let place : problem_header + signed_bytes * (2 * (i * suc (n_field s)) + (suc (n_field s) + j)) ≡ right_place (n_field s) i j = omega arith in
            let e = lead_scaled k (lead_inside (n_field s) (m_field s) i (suc (n_field s) + j) row (omega arith)) in
            rw (r.kind, r.of_kind, r.same_n) (sym (rw place at e));
      }

-- E in half minutes: rule anchor + 60 ≤ moment 1.
half_minutes_e : List ℕ
half_minutes_e = 38 ∷ 0 ∷ 0 ∷ 0 ∷ 1 ∷ 0 ∷ 1 ∷ 0 ∷ 1 ∷ 0 ∷ 60 ∷ 0 ∷ 0 ∷ 0 ∷ 0 ∷ 0 ∷ 0 ∷ 128 ∷ 0 ∷ 0 ∷ 0 ∷ 128 ∷ 0 ∷ 0 ∷ 0 ∷ 0 ∷ 0 ∷ 0 ∷ 0 ∷ 128 ∷ 0 ∷ 0 ∷ 0 ∷ 0 ∷ 0 ∷ 0 ∷ 0 ∷ 0 ∷ 0 ∷ 0 ∷ 0 ∷ 128 ∷ []

scaled_e : ScaledRecord 2 example_e.problem half_minutes_e
unfolding half_minutes_e example_e leads_of num_at nums_at trop_field signed times
scaled_e = record { of_kind = refl; kind = refl; same_n = refl; same_m = refl; leads = refl }

-- With one part a minute nothing changes.
once : (a : ℤ) → pos 1 *ℤ a ≡ a
once (pos k) = omega whole
once (negsuc k) = omega (whole, neg_read (pos (1 * suc k)))

pub one_part_a_minute : (p : Problem) → GainsNothing 1 p p
one_part_a_minute p =
    record {
      least_exactly = λ s. (λ o. rw (once s) o, λ o. rw (once s) at o);
      no_other_least = λ u o. record { span = u; is = sym (once u); least = o };
      bottomless_exactly = (λ u. u, λ u. u);
      none_exactly = (λ i. i, λ i. i);
    }
