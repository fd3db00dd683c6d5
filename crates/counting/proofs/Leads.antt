-- The leads of a census as fields, and those of a problem by its number.
use Prim.Native.Nat.{ℕ, zero, suc, ◌+◌, ◌*◌, ◌-◌, ◌/◌, ◌%◌, ◌≤◌, ◌<◌}
use mathlib.Core.Path.{◌≡◌, refl, sym, ◌∙◌}
use mathlib.Core.Bool.{true}
use mathlib.Core.List.{List, map}
use native.Mathlib.Omega.{arith}
use lib.ListN.{length}
use lib.IntN.{sub_ℕ, nat_abs}
use borrow.Author.Tests.{le-leb}
use Rattle.definitions.specs.Limits.{lead_limit, signed_half, signed_bytes, problem_header}
use Rattle.definitions.specs.Tropical.{fin}
use Rattle.definitions.specs.Bytes.{le, put, fields, field_of, blank_or_within}
use Rattle.definitions.specs.Offset.{off}
use Rattle.definitions.proofs.Bytes.{length_le}
use Rattle.definitions.proofs.Put.{put_nil, put_put, length_put}
use Rattle.definitions.proofs.Offset.{off_off, off_field_of, field_of_bound, within_fits}
use Rattle.definitions.proofs.Whole.{subℕ_read, abs_show}
use Rattle.definitions.specs.Census.{census_lead, leads_up_to}
use Rattle.counting.specs.Steps.{leads_at}

-- A lead of the census is blank or within w.
pub lead_small : (w k : ℕ) → k < leads_up_to w → blank_or_within w (census_lead w k) ≡ true
unfolding census_lead blank_or_within
lead_small w zero h = refl
lead_small w (suc k) h =
    let size : nat_abs (sub_ℕ k w) ≤ w = abs_show (sub_ℕ k w) (omega (arith, subℕ_read k w)) (omega (arith, subℕ_read k w)) in
    le-leb (nat_abs (sub_ℕ k w)) w size

-- Its field: that of blank, and that of a whole number.
pub blank_field : (w k : ℕ) → k ≡ 0 → signed_half ≡ field_of (census_lead w k)
unfolding census_lead field_of
blank_field w k e = rw e refl

pub whole_field : (w k r : ℕ) → w ≤ lead_limit → (k ≡ 0 → ⊥) → k < leads_up_to w → r ≡ off (signed_half + k - 1 - w) → r ≡ field_of (census_lead w k)
unfolding census_lead
whole_field w zero r h n g e = absurd (n refl)
whole_field w (suc k) r h n g e =
    let small : nat_abs (sub_ℕ k w) ≤ w = abs_show (sub_ℕ k w) (omega (arith, subℕ_read k w)) (omega (arith, subℕ_read k w)) in
    let size : nat_abs (sub_ℕ k w) < signed_half = omega arith in
    let same : off (field_of (fin (sub_ℕ k w))) ≡ signed_half + suc k - 1 - w = omega (arith, off_field_of (sub_ℕ k w) size, subℕ_read k w) in
    let fits = within_fits w {x = fin (sub_ℕ k w)} (omega arith) (lead_small w (suc k) g) in
    e ∙ rw (← same) (off_off (field_of (fin (sub_ℕ k w))) (field_of_bound (fin (sub_ℕ k w)) fits))

-- ---- the leads of a problem put one after another

abbrev lead_fields : ℕ → ℕ → ℕ → List ℕ
lead_fields w k c = fields signed_bytes (map field_of (leads_at w k c))

-- So many were put: those that are left, put from here, are the whole.
pub record Putting (w leads number : ℕ) (l now-is : List ℕ) (rest i : ℕ) : Type 0 where
  pub same_length : length now-is ≡ length l
  pub left : ℕ
  pub left_is : i + left ≡ leads
  pub whole_is : put now-is (problem_header + signed_bytes * i) (lead_fields w left rest) ≡ put l problem_header (lead_fields w leads number)

pub putting_start : (w leads number : ℕ) (l : List ℕ) → Putting w leads number l l number 0
putting_start w leads number l = record { same_length = refl; left = leads; left_is = omega arith; whole_is = refl }

turn_from : (w leads number : ℕ) (l l₁ l₂ : List ℕ) (rest i left x : ℕ) → length l₁ ≡ length l → i + left ≡ leads
    → put l₁ (problem_header + signed_bytes * i) (lead_fields w left rest) ≡ put l problem_header (lead_fields w leads number) → i < leads → problem_header + signed_bytes * leads ≤ length l
    → x ≡ field_of (census_lead w (rest % leads_up_to w)) → l₂ ≡ put l₁ (problem_header + signed_bytes * i) (le signed_bytes x)
    → Putting w leads number l l₂ (rest / leads_up_to w) (i + 1)
unfolding leads_at fields
turn_from w leads number l l₁ l₂ rest i zero x s e g h room f q = absurd (omega arith)
turn_from w leads number l l₁ l₂ rest i (suc left) x s e g h room f q =
    let next : problem_header + signed_bytes * (i + 1) ≡ problem_header + signed_bytes * i + length (le signed_bytes x) = rw length_le (omega arith) in
    let step = put_put l₁ (problem_header + signed_bytes * i) (le signed_bytes x) (problem_header + signed_bytes * (i + 1)) (lead_fields w left (rest / leads_up_to w)) (omega arith) next in
    record {
      same_length = rw q (length_put l₁ (problem_header + signed_bytes * i) (le signed_bytes x) (omega arith) (rw length_le (omega arith))) ∙ s;
      left = left;
      left_is = omega arith;
      whole_is = rw q (step ∙ rw f g);
    }

pub putting_turn : {w leads number : ℕ} {l l₁ l₂ : List ℕ} {rest i x : ℕ} → Putting w leads number l l₁ rest i → i < leads → problem_header + signed_bytes * leads ≤ length l
    → x ≡ field_of (census_lead w (rest % leads_up_to w)) → l₂ ≡ put l₁ (problem_header + signed_bytes * i) (le signed_bytes x)
    → Putting w leads number l l₂ (rest / leads_up_to w) (i + 1)
putting_turn r h room f q = turn_from _ _ _ _ _ _ _ _ _ _ r.same_length r.left_is r.whole_is h room f q

pub putting_end : {w leads number : ℕ} {l l₁ : List ℕ} {rest i : ℕ} → Putting w leads number l l₁ rest i → leads ≤ i
    → l₁ ≡ put l problem_header (lead_fields w leads number)
unfolding leads_at fields
putting_end {l₁ = l₁} {i = i} r h = let none : r.left ≡ 0 = omega (arith, r.left_is) in sym (put_nil l₁ (problem_header + signed_bytes * i)) ∙ (rw none at r.whole_is)
