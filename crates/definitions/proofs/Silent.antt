-- Rules that say nothing: a left list judged lead by lead, and rows one by one. Document 02, 2.6.
use Prim.Native.Nat.{ℕ, zero, suc, ◌+◌, ◌*◌, ◌≤◌, ◌<◌}
use mathlib.Core.Path.{◌≡◌, refl, ap, ap₂, sym}
use mathlib.Core.Bool.{Bool, true, false, ◌&&◌, ◌||◌, and-eq-true_iff, false≢true}
use mathlib.Core.Logic.{◌↔◌, ⊎_elim}
use mathlib.Core.List.{List}
use native.Mathlib.Omega.{arith}
use lib.Dec.{eqb}
use borrow.Author.Tests.{eqb-true}
use Rattle.base.proofs.Numbers.{nat_le_or_lt}
use Rattle.definitions.specs.Limits.{signed_bytes, signed_half}
use Rattle.definitions.specs.Tropical.{bot}
use Rattle.definitions.specs.Bytes.{num_at, nums_at, trop_at, trop_field, all, some_below}
use Rattle.definitions.specs.ProblemRecord.{run_blank}

-- ---- rows

either_false : (s t : Bool) → ((s || t) ≡ false) ↔ ((s ≡ false) × (t ≡ false))
either_false true t = (λ e. absurd (false≢true (sym e)), λ h. h.0)
either_false false t = (λ e. (refl, e), λ h. h.1)

-- The test passes for no number below k exactly when it fails for each.
pub none_below : (test : ℕ → Bool) (k : ℕ) → (some_below test k ≡ false) ↔ ((i : ℕ) → i < k → test i ≡ false)
unfolding some_below
none_below test zero = (λ e i h. absurd (omega arith), λ h. refl)
none_below test (suc k) =
    let more = either_false (some_below test k) (test k) in
    let rest = none_below test k in (
      λ e i h. ⊎_elim
          (λ (q : k ≤ i). let d : i ≡ k = omega arith in rw d (more.0 e).1)
          (λ (q : i < k). rest.0 (more.0 e).0 i q)
          (nat_le_or_lt k i),
      λ h. more.1 (rest.1 (λ i q. h i (omega arith)), h k (omega arith)),
    )

-- Tests that agree below k agree on whether one passes.
pub some_same : (f g : ℕ → Bool) (k : ℕ) → ((i : ℕ) → i < k → f i ≡ g i) → some_below f k ≡ some_below g k
unfolding some_below
some_same f g zero h = refl
some_same f g (suc k) h = ap₂ ◌||◌ (some_same f g k (λ i q. h i (omega arith))) (h k (omega arith))

-- ---- the leads of a list

-- Runs of the same leads are both blank, or both not.
pub run_same : (s t : List ℕ) (count at bt : ℕ) → ((j : ℕ) → j < count → num_at signed_bytes s (at + signed_bytes * j) ≡ num_at signed_bytes t (bt + signed_bytes * j))
    → run_blank s count at ≡ run_blank t count bt
unfolding nums_at all
run_same s t zero at bt h = refl
run_same s t (suc count) at bt h =
    let from : at + signed_bytes * 0 ≡ at = omega arith in
    let to : bt + signed_bytes * 0 ≡ bt = omega arith in
    let here : num_at signed_bytes s at ≡ num_at signed_bytes t bt = rw (from, to) at (h 0 (omega arith)) in
    ap₂ ◌&&◌ (ap (eqb signed_half) here) (run_same s t count (at + signed_bytes) (bt + signed_bytes) (λ j q.
    let from : at + signed_bytes + signed_bytes * j ≡ at + signed_bytes * suc j = omega arith in
    let to : bt + signed_bytes + signed_bytes * j ≡ bt + signed_bytes * suc j = omega arith in
    rw (from, to) (h (suc j) (omega arith))))

-- Each lead of a blank run is blank.
pub run_blank_lem : (s : List ℕ) (count at : ℕ) → run_blank s count at ≡ true → (j : ℕ) → j < count → trop_at s (at + signed_bytes * j) ≡ bot
unfolding nums_at all trop_at trop_field
run_blank_lem s zero at e j h = absurd (omega arith)
run_blank_lem s (suc count) at e zero h =
    let b = (and-eq-true_iff (eqb signed_half (num_at signed_bytes s at)) _).0 e in
    let number : num_at signed_bytes s at ≡ signed_half = sym (eqb-true signed_half _ b.0) in
    let here : at + signed_bytes * 0 ≡ at = omega arith in
    rw (here, number) refl
run_blank_lem s (suc count) at e (suc j) h =
    let b = (and-eq-true_iff (eqb signed_half (num_at signed_bytes s at)) _).0 e in
    let place : at + signed_bytes * suc j ≡ at + signed_bytes + signed_bytes * j = omega arith in
    rw place (run_blank_lem s count (at + signed_bytes) b.1 j (omega arith))

-- A run with a lead that is not blank is not blank.
pub run_speaks : (s : List ℕ) (count at j : ℕ) → j < count → (trop_at s (at + signed_bytes * j) ≡ bot → ⊥) → run_blank s count at ≡ false
run_speaks s count at j h some = go (run_blank s count at) refl
  where
    go : (b : Bool) → run_blank s count at ≡ b → b ≡ false
    go true e = absurd (some (run_blank_lem s count at e j h))
    go false e = refl
