-- Laws of one trial, and of what the trials find: there is one class, span and count, and at most 24 trials.
use Prim.Native.Nat.{ℕ, ◌+◌, ◌-◌, ◌≤◌, ◌<◌}
use mathlib.Core.Path.{◌≡◌, refl, ap}
use mathlib.Core.Logic.{⊎_elim, ◌↔◌}
use native.Mathlib.Omega.{arith}
use lib.Dec.{leb}
use lib.IntN.{nat_abs, neg_ℤ}
use lib.Signed.{◌≤ℤ◌}
use borrow.Author.Tests.{leb-true, leb-false}
use Rattle.base.specs.Decides.{Decides}
use Rattle.base.proofs.Numbers.{nat_le_or_lt}
use Rattle.definitions.specs.Limits.{signed_half, signed_full, span_limit, most_trials, class_optimal, class_unbounded, class_infeasible}
use Rattle.definitions.specs.Tropical.{fin, ◌⊑◌, whole_least, Finite}
use Rattle.definitions.specs.Offset.{trop_of}
use Rattle.definitions.specs.Bisection.{trials_infeasible, trials_unbounded, trials_optimal}
use Rattle.definitions.proofs.Whole.{whole, le_read, subℕ_read, neg_read, abs_show}
use Rattle.definitions.proofs.Tropical.{finite_above, fin_below}
use Rattle.definitions.proofs.Offset.{trop_fin, trop_read}
use Rattle.definitions.proofs.Bisection.{few_trials}
use Rattle.search.specs.Trials.{whole_of, top_offset, lowest_offset, Trialled, PossibleBy, LeastBy, FoundBy}

-- ---- one trial

-- One comparison decides a trial.
pub compared : (second t : ℕ) → Decides (PossibleBy second t) (leb signed_full (t + second))
compared second t = record {
  yes = leb-true signed_full (t + second);
  no = λ e h. let l : t + second < signed_full = leb-false signed_full (t + second) e in omega arith;
}

-- A span in the trials' range is possible exactly when −t is at most the second side, which may be blank,
module _ (second t : ℕ) (r : Trialled t) where
  pub possible_side : PossibleBy second t → fin (neg_ℤ (whole_of t)) ⊑ trop_of second
  possible_side h =
      let l : neg_ℤ (whole_of t) ≤ℤ whole_of second = omega (whole, neg_read (whole_of t), subℕ_read t signed_half, subℕ_read second signed_half) in
      rw (trop_fin second (omega (arith, r.highest))) (whole_least l)

  pub side_possible : fin (neg_ℤ (whole_of t)) ⊑ trop_of second → PossibleBy second t
  side_possible h =
      let f : Finite (trop_of second) = finite_above h in
      let l : neg_ℤ (whole_of t) ≤ℤ f.whole = fin_below (rw f.is at h) in
      omega (arith, le_read l, trop_read second f.is, neg_read (whole_of t), subℕ_read t signed_half)

  pub possible_exactly : PossibleBy second t ↔ (fin (neg_ℤ (whole_of t)) ⊑ trop_of second)
  possible_exactly = (possible_side, side_possible)

-- and what is above a possible one is possible.
pub possible_above : (second t u : ℕ) → t ≤ u → PossibleBy second t → PossibleBy second u
possible_above second t u l h = omega arith

-- ---- the least span

module _ {second span : ℕ} (l : LeastBy second span) where
  -- It is minus the second side, in offset numbers.
  pub least_is : span + second ≡ signed_full
  least_is = omega (arith, l.possible, l.impossible, l.lowest)

  -- It and one below it are in the trials' range.
  pub least_trialled : Trialled span
  least_trialled = omega (arith, l.lowest, l.highest)

  pub below_trialled : Trialled (span - 1)
  below_trialled = omega (arith, l.lowest, l.highest)

  least_within : nat_abs (whole_of span) ≤ span_limit
  least_within = abs_show (whole_of span) (omega (arith, l.highest, subℕ_read span signed_half)) (omega (arith, l.lowest, subℕ_read span signed_half))

-- ---- there is one

-- Class, span and trials are those of another.
pub record SameFound (class span trials class' span' trials' : ℕ) : Type 0 where
  pub class_same : class ≡ class'
  pub span_same : span ≡ span'
  pub trials_same : trials ≡ trials'

-- What the trials find is one.
pub found_one : {second class span trials class' span' trials' : ℕ}
    → FoundBy second class span trials → FoundBy second class' span' trials' → SameFound class span trials class' span' trials'
found_one (FoundBy.none h) (FoundBy.none k) = record { class_same = refl; span_same = refl; trials_same = refl }
found_one (FoundBy.none h) (FoundBy.bottomless k) = absurd (omega arith)
found_one (FoundBy.none h) (FoundBy.least k) = absurd (omega arith)
found_one (FoundBy.bottomless h) (FoundBy.none k) = absurd (omega arith)
found_one (FoundBy.bottomless h) (FoundBy.bottomless k) = record { class_same = refl; span_same = refl; trials_same = refl }
found_one (FoundBy.bottomless h) (FoundBy.least k) = absurd (omega arith)
found_one (FoundBy.least h) (FoundBy.none k) = absurd (omega arith)
found_one (FoundBy.least h) (FoundBy.bottomless k) = absurd (omega arith)
found_one (FoundBy.least {span = a} h) (FoundBy.least {span = b} k) =
    let e : a ≡ b = omega (arith, least_is h, least_is k) in
    record { class_same = refl; span_same = e; trials_same = ap (λ (x : ℕ). trials_optimal (whole_of x)) e }

-- ---- each class

-- None: the top is not possible.
pub found_none : {second class span trials : ℕ} → FoundBy second class span trials → class ≡ class_infeasible → PossibleBy second top_offset → ⊥
found_none (FoundBy.none h) e = h
found_none (FoundBy.bottomless h) e = absurd (omega arith)
found_none (FoundBy.least h) e = absurd (omega arith)

-- Bottomless: the lowest is possible.
pub found_bottomless : {second class span trials : ℕ} → FoundBy second class span trials → class ≡ class_unbounded → PossibleBy second lowest_offset
found_bottomless (FoundBy.none h) e = absurd (omega arith)
found_bottomless (FoundBy.bottomless h) e = h
found_bottomless (FoundBy.least h) e = absurd (omega arith)

-- Least: the span is the least possible.
pub found_least : {second class span trials : ℕ} → FoundBy second class span trials → class ≡ class_optimal → LeastBy second span
found_least (FoundBy.none h) e = absurd (omega arith)
found_least (FoundBy.bottomless h) e = absurd (omega arith)
found_least (FoundBy.least h) e = h

-- ---- the count

-- Never above 24 trials.
pub found_few : {second class span trials : ℕ} → FoundBy second class span trials → trials ≤ most_trials
found_few (FoundBy.none h) = omega arith
found_few (FoundBy.bottomless h) = omega arith
found_few (FoundBy.least {span = a} h) = few_trials (whole_of a) (least_within h)

-- ---- there is always one

-- What the trials find.
pub record Finds (second : ℕ) : Type 0 where
  pub class : ℕ
  pub span : ℕ
  pub trials : ℕ
  pub found : FoundBy second class span trials

-- Whatever the second side is, they find something.
pub finds : (second : ℕ) → Finds second
finds second = ⊎_elim
    (λ (h : PossibleBy second top_offset).
    ⊎_elim
    (λ (l : PossibleBy second lowest_offset). record { class = class_unbounded; span = 0; trials = trials_unbounded; found = FoundBy.bottomless l })
    (λ (l : lowest_offset + second < signed_half + signed_half).
    let s : ℕ = signed_full - second in
    let least : LeastBy second s = record { possible = omega arith; impossible = λ k. omega arith; lowest = omega arith; highest = omega arith } in
    record { class = class_optimal; span = s; trials = trials_optimal (whole_of s); found = FoundBy.least least })
    (nat_le_or_lt (signed_half + signed_half) (lowest_offset + second)))
    (λ (h : top_offset + second < signed_half + signed_half).
    record { class = class_infeasible; span = 0; trials = trials_infeasible; found = FoundBy.none (λ k. omega arith) })
    (nat_le_or_lt (signed_half + signed_half) (top_offset + second))

-- The span and the trials of each class.
pub none_span : {second class span trials : ℕ} → FoundBy second class span trials → class ≡ class_infeasible → (span ≡ 0) × (trials ≡ trials_infeasible)
none_span (FoundBy.none h) e = (refl, refl)
none_span (FoundBy.bottomless h) e = absurd (omega arith)
none_span (FoundBy.least h) e = absurd (omega arith)

pub bottomless_span : {second class span trials : ℕ} → FoundBy second class span trials → class ≡ class_unbounded → (span ≡ 0) × (trials ≡ trials_unbounded)
bottomless_span (FoundBy.none h) e = absurd (omega arith)
bottomless_span (FoundBy.bottomless h) e = (refl, refl)
bottomless_span (FoundBy.least h) e = absurd (omega arith)

pub least_trials : {second class span trials : ℕ} → FoundBy second class span trials → class ≡ class_optimal → trials ≡ trials_optimal (whole_of span)
least_trials (FoundBy.none h) e = absurd (omega arith)
least_trials (FoundBy.bottomless h) e = absurd (omega arith)
least_trials (FoundBy.least h) e = refl
