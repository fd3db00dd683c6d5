-- A plan in bytes and its stamps in an array; the plan merged from two arrays, stamp by stamp.
use Prim.Native.Nat.{ℕ, zero, suc, ◌+◌, ◌*◌, ◌≤◌, ◌<◌}
use mathlib.Core.Path.{◌≡◌, refl, ap, sym, ◌∙◌}
use mathlib.Core.Bool.{Bool, true, false, ◌||◌, and-eq-true_iff}
use Rattle.std.specs.List.{list_any, range_with_len}
use mathlib.Core.List.{List, map}
use mathlib.Core.Logic.{⊎_elim}
use native.Mathlib.Omega.{arith}
use lib.Dec.{eqb}
use lib.ListN.{length, get_or, take, length-map, get_or-eq_default}
use borrow.Author.Tests.{eq-eqb, ne_eqb, eqb-true}
use Rattle.base.proofs.Numbers.{nat_le_or_lt}
use Rattle.definitions.specs.Limits.{stamp_limit, signed_bytes, stride}
use Rattle.definitions.specs.Tropical.{bot}
use Rattle.definitions.specs.Bytes.{Bytes, num_at, nums_at, all, blank_or_within, some_below}
use Rattle.definitions.specs.Offset.{trop_of, off}
use Rattle.definitions.specs.AnswerRecord.{stamps_fit}
use Rattle.definitions.specs.Verdict.{point_of}
use Rattle.definitions.specs.Merging.{plan_stamps, plan_of, plan_fits, early}
use Rattle.definitions.proofs.Bytes.{all_true, get_d_nums_at, length_nums_at, nums_at_below}
use Rattle.definitions.proofs.RoundTrip.{stamps_within}
use Rattle.definitions.proofs.Silent.{none_below}
use Rattle.records.specs.Decoded.{Near}
use Rattle.records.specs.Stamps.{Stamped, stamps_point}
use Rattle.records.proofs.Near.{near_zero, near_within}
use Rattle.answer_reader.specs.Fields.{Padded}
use Rattle.answer_reader.proofs.Passing.{map_at, trop_at_lem}
use Rattle.answer_reader.proofs.Padding.{padded_take}
use Rattle.answer_reader.proofs.Judging.{trops_off}
use Rattle.merging.specs.Plans.{numbers_in, later_of}
use Rattle.merging.specs.Outcome.{joined, joined_early}

-- ---- in bytes

pub numbers_length : (s : List ℕ) (count : ℕ) → length (numbers_in s count) ≡ count
unfolding numbers_in
numbers_length s count = rw (length-map, length_nums_at)

pub numbers_at : (s : List ℕ) (count j : ℕ) → j < count → off (num_at signed_bytes s (signed_bytes * j)) ≡ get_or (numbers_in s count) j 0
unfolding numbers_in
numbers_at s count j h =
    let z : 0 + signed_bytes * j ≡ signed_bytes * j = omega arith in
    rw (map_at off (nums_at signed_bytes count s 0) j (rw length_nums_at h), get_d_nums_at signed_bytes count s 0 j h, z)

-- The numbers stand for the stamps.
pub numbers_meant : (n : ℕ) {s : List ℕ} → Bytes s → map trop_of (numbers_in s (n + 1)) ≡ plan_stamps n s
unfolding numbers_in
numbers_meant n {s} b = let e : n + 1 ≡ suc n = omega arith in rw e (trops_off _ (nums_at_below signed_bytes (suc n) 0 b))

-- ---- the form

pub plan_missized : (n : ℕ) (s : List ℕ) → (length s ≡ signed_bytes * (n + 1) → ⊥) → false ≡ plan_fits n s
unfolding plan_fits
plan_missized n s h = rw (ne_eqb (length s) (signed_bytes * suc n) (λ e. h (e ∙ omega arith)))

-- What the stamps of as many bytes as are due say of the plan.
pub plan_sized : (n : ℕ) {s x : List ℕ} {r : Bool} → Bytes s → length s ≡ signed_bytes * (n + 1) → n + 1 ≤ stride → Padded stride (numbers_in s (n + 1)) x
    → r ≡ stamps_fit (map trop_of (take (n + 1) x)) → r ≡ plan_fits n s
unfolding plan_fits
plan_sized n {s} {x} b e h p f =
    let cut : take (n + 1) x ≡ numbers_in s (n + 1) = rw (numbers_length s (n + 1)) at (padded_take p (rw (numbers_length s (n + 1)) h)) in
    let size : length s ≡ signed_bytes * suc n = omega arith in
    rw (eq-eqb (length s) (signed_bytes * suc n) size) (f ∙ ap (λ (l : List ℕ). stamps_fit (map trop_of l)) cut ∙ ap stamps_fit (numbers_meant n b))

-- A plan of the right form: its size, and its stamps' form.
pub record PlanFits (n : ℕ) (s : List ℕ) : Type 0 where
  pub size_is : length s ≡ signed_bytes * (n + 1)
  pub form : stamps_fit (plan_stamps n s) ≡ true

pub plan_of_form : (n : ℕ) (s : List ℕ) → plan_fits n s ≡ true → PlanFits n s
unfolding plan_fits
plan_of_form n s e =
    let b = (and-eq-true_iff (eqb (length s) (signed_bytes * suc n)) (stamps_fit (plan_stamps n s))).0 e in
    record { size_is = omega (arith, eqb-true (length s) (signed_bytes * suc n) b.0); form = b.1 }

-- ---- in an array

module _ (n : ℕ) {s x : List ℕ} (b : Bytes s) (p : Padded stride (numbers_in s (n + 1)) x) where
  -- At every index the array is the plan: blank behind the last stamp.
  pub plan_point : (j : ℕ) → stamps_point x j ≡ plan_of n s j
  unfolding stamps_point point_of
  plan_point j = rw (p.element j, ← numbers_meant n b) (sym (trop_at_lem (numbers_in s (n + 1)) j))

  -- The stamps of a plan of the right form are within their limit.
  pub plan_stamped : plan_fits n s ≡ true → Stamped x
  plan_stamped f = record { length_is = p.width_is; near = λ k. rw (p.element k) (each k) }
    where
      fit : all (blank_or_within stamp_limit) (map trop_of (numbers_in s (n + 1))) ≡ true
      fit = rw (numbers_meant n b) (stamps_within (plan_stamps n s) (plan_of_form n s f).form)

      inside : (k : ℕ) → k < n + 1 → Near stamp_limit (get_or (numbers_in s (n + 1)) k 0)
      inside k h = near_within stamp_limit _ (omega arith) (rw trop_at_lem at
          ((all_true (blank_or_within stamp_limit) bot (map trop_of (numbers_in s (n + 1)))).0 fit k (rw (length-map, numbers_length s (n + 1)) h)))

      each : (k : ℕ) → Near stamp_limit (get_or (numbers_in s (n + 1)) k 0)
      each k = ⊎_elim
          (λ (h : n + 1 ≤ k). let e : get_or (numbers_in s (n + 1)) k 0 ≡ 0 = get_or-eq_default (numbers_in s (n + 1)) 0 (rw (numbers_length s (n + 1)) h) in rw e (near_zero stamp_limit))
          (λ (h : k < n + 1). inside k h)
          (nat_le_or_lt (n + 1) k)

-- ---- merged, stamp by stamp

-- A test that passes for a number of a range.
any_more : (test : ℕ → Bool) (a n : ℕ) → list_any test (range_with_len a (suc n)) ≡ (list_any test (range_with_len a n) || test (a + n))
any_more test a zero = let e : a + 0 ≡ a = omega arith in rw e (or_none (test a))
  where
    or_none : (b : Bool) → (b || false) ≡ b
    or_none true = refl
    or_none false = refl
any_more test a (suc n) =
    let e : a + 1 + n ≡ a + suc n = omega arith in
    ap (λ (b : Bool). test a || b) (any_more test (a + 1) n) ∙ rw e (or_assoc (test a) (list_any test (range_with_len (a + 1) n)) (test (a + suc n)))
  where
    or_assoc : (a b c : Bool) → (a || (b || c)) ≡ ((a || b) || c)
    or_assoc true b c = refl
    or_assoc false b c = refl

any_below : (test : ℕ → Bool) (n : ℕ) → list_any test (range_with_len 0 n) ≡ some_below test n
unfolding some_below
any_below test zero = refl
any_below test (suc n) = let e : 0 + n ≡ n = omega arith in any_more test 0 n ∙ rw (any_below test n, e) refl

module _ (back : ℕ) (one other : List ℕ) where
  pub joined_at : (j : ℕ) → later_of back (get_or one j 0) (get_or other j 0) ≡ joined back one other j
  unfolding stamps_point
  joined_at j = refl

  pub joined_any : (count : ℕ) → list_any (λ j. early (later_of back (get_or one j 0) (get_or other j 0))) (range_with_len 0 count) ≡ joined_early back one other count
  unfolding stamps_point
  joined_any count = any_below (λ j. early (joined back one other j)) count

  pub joined_late : (count j : ℕ) → joined_early back one other count ≡ false → j < count → early (later_of back (get_or one j 0) (get_or other j 0)) ≡ false
  joined_late count j e h = rw (joined_at j) ((none_below (λ j. early (joined back one other j)) count).0 e j h)
