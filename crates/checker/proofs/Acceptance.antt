-- What the tests of each class say of an answer: all that document 01 lists for the class, or not.
use Prim.Native.Nat.{ℕ, suc, ◌+◌, ◌*◌, ◌-◌, ◌≤◌, ◌<◌}
use mathlib.Core.Path.{◌≡◌, ap, sym, subst, ◌∙◌, fun_ext}
use mathlib.Core.Bool.{Bool, true, false, false≢true, and-eq-true_iff}
use mathlib.Core.List.{List}
use native.Mathlib.Omega.{arith}
use lib.ListN.{get_or}
use lib.IntN.{ℤ, pos, negsuc, sub_ℕ, nat_abs, ◌-ℤ◌}
use lib.Dec.{ltb, leb}
use borrow.Author.Tests.{ne_eqb, ltb-true, leb-true}
use Rattle.base.specs.Decides.{Decides}
use Rattle.base.proofs.Decides.{said_no, decides_as}
use Rattle.definitions.specs.Limits.{signed_half, lead_limit, span_limit, class_optimal, class_unbounded, class_infeasible}
use Rattle.definitions.specs.Tropical.{Trop, fin}
use Rattle.definitions.specs.Offset.{trop_of}
use Rattle.definitions.specs.Problem.{Problem, Point, Keeps, value, whole}
use Rattle.definitions.specs.Certificate.{Strategy, Second, start_of, AnchorAnd, PicksCount, BelowZero, RowPicksCount, AtLeastZero, AcceptedOptimal, AcceptedUnbounded, AcceptedInfeasible}
use Rattle.definitions.specs.AnswerRecord.{Answer, known_class, highest_pick}
use Rattle.definitions.specs.Verdict.{Accepted, optimal, unbounded, infeasible, point_of, strategy_of}
use Rattle.definitions.proofs.Whole.{minus_read, abs_show}
use Rattle.definitions.proofs.Tropical.{fin_injective}
use Rattle.definitions.proofs.Offset.{trop_fin, trop_read, trop_show}
use Rattle.duality.specs.Picks.{NoneAbove}
use Rattle.duality.specs.Starts.{StartBelow}
use Rattle.duality.specs.Within.{Within}
use Rattle.duality.proofs.Starts.{optimal_from, infeasible_from, unbounded_from}
use Rattle.duality.proofs.Numbers.{infeasible_below, below_infeasible, unbounded_above, above_unbounded, top_enough}
use Rattle.records.specs.Decoded.{Near, InTables}
use Rattle.records.specs.Stamps.{stamps_point}
use Rattle.reach.specs.Marks.{Begins, StartMarked}
use Rattle.closed_walks.specs.Tables.{Picked, Trial}
use Rattle.answer_reader.specs.declared.answer.Head.{Head}
use Rattle.checker.specs.Outcome.{Span, Formed, Meant}

-- ---- problems in the tables are small

-- A number near that of 0 stands for a small one.
near_size : {d : ℕ} (k : ℕ) {x : Trop} {z : ℤ} → Near d k → trop_of k ≡ x → x ≡ fin z → nat_abs z ≤ d
near_size k {z = z} h e f = let r = trop_read k (e ∙ f) in abs_show z (omega (arith, h.hi)) (omega (arith, h.lo r.0))

pub holds_within : {p : Problem} {left right : List ℕ} {n m : ℕ} → InTables p n m left right → Within p lead_limit
holds_within {left = left} {right = right} h = record {
  left = λ i j a b c e. near_size (get_or left (i * 32 + j) 0) (h.decoded.left_near (i * 32 + j)) (h.decoded.left_is i j b c) e;
  right = λ i j a b c e. near_size (get_or right (i * 32 + j) 0) (h.decoded.right_near (i * 32 + j)) (h.decoded.right_is i j b c) e;
}

pub holds_enough : {p : Problem} {left right : List ℕ} {n m : ℕ} → InTables p n m left right → 2 * (suc p.n * lead_limit) ≤ span_limit
holds_enough {p} h = top_enough p.n lead_limit (omega (arith, h.decoded.n_most))

-- ---- class 1

-- The trial of class 1: the span less 1.
pub trial_below : {span : ℕ} → Span span → Trial (span - 1)
trial_below s = record {
  some = omega (arith, s.near.lo s.some);
  near = record { hi = omega (arith, s.near.hi); lo = λ h. omega (arith, s.near.lo s.some) };
}

pub trial_below_is : (span : ℕ) {z : ℤ} → Span span → trop_of span ≡ fin z → trop_of (span - 1) ≡ fin (z -ℤ pos 1)
trial_below_is span {z} s e =
    let r = trop_read span e in
    trop_show (span - 1) (z -ℤ pos 1) (omega (arith, s.near.lo s.some)) (omega (arith, minus_read z (pos 1), s.near.lo s.some))

module _ {Start : ℕ → Type 0} {p : Problem} {left right : List ℕ} {n m : ℕ} (holds : InTables p n m left right) (stamps : List ℕ) {picks : Strategy} {z : ℤ} where
  -- The rules are broken.
  pub optimal_broken : {c : Bool} → Decides ((i : ℕ) → i < m → Keeps p (stamps_point stamps) i) c → c ≡ false
      → Decides (AcceptedOptimal Start p z (stamps_point stamps) picks) false
  optimal_broken d e = said_no (λ a. d.no e (λ i h. a.feasible.keeps i (rw holds.m_is h)))

  -- The value is another.
  pub optimal_other : {c : Bool} → Decides (value p (stamps_point stamps) ≡ whole z) c → c ≡ false
      → Decides (AcceptedOptimal Start p z (stamps_point stamps) picks) false
  optimal_other d e = said_no (λ a. d.no e a.value_is)

  -- Both are right: the picks decide.
  pub optimal_picks : {c d r : Bool} → get_or stamps 0 0 ≡ signed_half → Decides ((i : ℕ) → i < m → Keeps p (stamps_point stamps) i) c → c ≡ true
      → Decides (value p (stamps_point stamps) ≡ whole z) d → d ≡ true
      → Decides (PicksCount Start p picks × BelowZero Start p picks (z -ℤ pos 1)) r → Decides (AcceptedOptimal Start p z (stamps_point stamps) picks) r
  unfolding stamps_point
  optimal_picks zero_is rules c is v walks = decides_as
      (λ h. record {
        feasible = record {
          anchored = ap trop_of zero_is ∙ trop_show signed_half (pos 0) (omega arith) (omega arith);
          keeps = λ i b. rules.yes c i (rw holds.m_is at b);
        };
        value_is = is.yes v;
        picks_count = h.0;
        below_zero = h.1;
      })
      (λ a. (a.picks_count, a.below_zero))
      walks

-- The same with the trial as an offset number.
pub optimal_at : {Start : ℕ → Type 0} {p : Problem} {picks : Strategy} {span : ℕ} {z : ℤ} {r : Bool} → Span span → trop_of span ≡ fin z
    → ((y : ℤ) → trop_of (span - 1) ≡ fin y → Decides (PicksCount Start p picks × BelowZero Start p picks y) r)
    → Decides (PicksCount Start p picks × BelowZero Start p picks (z -ℤ pos 1)) r
optimal_at {span = span} {z = z} s e f = f (z -ℤ pos 1) (trial_below_is span s e)

-- ---- classes 2 and 3

-- The two outer trials.
pub top_trial : Trial (signed_half + span_limit)
top_trial = record { some = omega arith; near = record { hi = omega arith; lo = λ _. omega arith } }

pub top_trial_is : trop_of (signed_half + span_limit) ≡ fin (pos span_limit)
top_trial_is = trop_show (signed_half + span_limit) (pos span_limit) (omega arith) (omega arith)

pub lowest_trial : Trial (signed_half - span_limit - 1)
lowest_trial = record { some = omega arith; near = record { hi = omega arith; lo = λ _. omega arith } }

pub lowest_trial_is : trop_of (signed_half - span_limit - 1) ≡ fin (negsuc span_limit)
lowest_trial_is = trop_show (signed_half - span_limit - 1) (negsuc span_limit) (omega arith) (omega arith)

-- Picks of the reader, none above the highest.
none_above : {many width : ℕ} {picks : List ℕ} → Picked picks many → NoneAbove many width (strategy_of picks)
unfolding strategy_of
none_above h j b = h.none_above j

module _ {Start : ℕ → Type 0} {p : Problem} {left right : List ℕ} {n m : ℕ} (holds : InTables p n m left right) (starts : (j : ℕ) → Start j → j ≤ p.n)
    {picks : List ℕ} {r : Bool} where
  pub infeasible_at : Picked picks (m + 1) → Decides (PicksCount Start p (strategy_of picks) × BelowZero Start p (strategy_of picks) (pos span_limit)) r
      → Decides (AcceptedInfeasible Start p (strategy_of picks)) r
  infeasible_at picked d =
      let e : m + 1 ≡ suc p.m = omega (arith, holds.m_is) in
      decides_as
      (λ h. below_infeasible p lead_limit span_limit (strategy_of picks) starts (holds_within holds) (holds_enough holds) (none_above (rw e at picked)) h.0 h.1)
      (λ a. (a.picks_count, infeasible_below p (strategy_of picks) (pos span_limit) a))
      d

  pub unbounded_at : Picked picks (n + 1) → Decides (RowPicksCount Start p (strategy_of picks) × AtLeastZero Start p (strategy_of picks) (negsuc span_limit)) r
      → Decides (AcceptedUnbounded Start p (strategy_of picks)) r
  unbounded_at picked d =
      let e : n + 1 ≡ suc p.n = omega (arith, holds.n_is) in
      decides_as
      (λ h. above_unbounded p lead_limit span_limit (strategy_of picks) starts (holds_within holds) (holds_enough holds) (none_above (rw e at picked)) h.0 h.1)
      (λ a. (a.picks_count, unbounded_above p (strategy_of picks) (negsuc span_limit) a))
      d

-- ---- from marks, and from the start that they mark

-- A start as marks of the variables 0 to n lies inside the problem.
pub begins_inside : {p : Problem} {left right start : List ℕ} {n m : ℕ} → InTables p n m left right → (j : ℕ) → Begins start (n + 1) j → j ≤ p.n
begins_inside holds j b = omega (arith, b.inside, holds.n_is)

-- So does one below n + 1.
pub start_inside : {Start : ℕ → Type 0} {n : ℕ} → StartBelow (suc n) Start → (j : ℕ) → Start j → j ≤ n
start_inside s j h = omega (arith, s.inside j h)

-- What is decided of the marks is decided of the start.
module _ {Start : ℕ → Type 0} {width : ℕ} {start : List ℕ} (starts : StartMarked Start width start) {p : Problem} {picks : Strategy} {r : Bool} where
  pub optimal_started : {z : ℤ} {x : Point} → Decides (AcceptedOptimal (Begins start width) p z x picks) r → Decides (AcceptedOptimal Start p z x picks) r
  optimal_started d = decides_as (optimal_from starts.marked) (optimal_from starts.only) d

  pub unbounded_started : Decides (AcceptedUnbounded (Begins start width) p picks) r → Decides (AcceptedUnbounded Start p picks) r
  unbounded_started d = decides_as (unbounded_from starts.marked) (unbounded_from starts.only) d

  pub infeasible_started : Decides (AcceptedInfeasible (Begins start width) p picks) r → Decides (AcceptedInfeasible Start p picks) r
  infeasible_started d = decides_as (infeasible_from starts.marked) (infeasible_from starts.only) d

-- ---- by class

point_same : {a : Answer} {head : Head} {stamps picks : List ℕ} → Meant a head stamps picks → stamps_point stamps ≡ point_of a.stamps
unfolding stamps_point
point_same meant = fun_ext meant.point_is

strategy_same : {a : Answer} {head : Head} {stamps picks : List ℕ} → Meant a head stamps picks → strategy_of picks ≡ strategy_of a.picks
unfolding strategy_of
strategy_same meant = fun_ext meant.strategy_is

module _ {p : Problem} {a : Answer} (head : Head) {stamps picks : List ℕ} (meant : Meant a head stamps picks) {r : Bool} where
  pub by_optimal : head.class ≡ 1 → Span head.span
      → ((z : ℤ) → trop_of head.span ≡ fin z → Decides (AcceptedOptimal (start_of p head.start) p z (stamps_point stamps) (strategy_of picks)) r) → Decides (Accepted p a) r
  by_optimal e s d =
      let is : trop_of head.span ≡ fin (sub_ℕ head.span signed_half) = trop_fin head.span s.some in
      decides_as
      (λ h. optimal (meant.class_is ∙ e) (meant.span_is ∙ is) (rw (meant.start_is, ← point_same meant, ← strategy_same meant) h))
      (λ h. back is h)
      (d (sub_ℕ head.span signed_half) is)
    where
      back : trop_of head.span ≡ fin (sub_ℕ head.span signed_half) → Accepted p a
          → AcceptedOptimal (start_of p head.start) p (sub_ℕ head.span signed_half) (stamps_point stamps) (strategy_of picks)
      back is (optimal {s = y} c f h) =
          let q : y ≡ sub_ℕ head.span signed_half = fin_injective (sym f ∙ meant.span_is ∙ is) in
          rw (← meant.start_is, point_same meant, strategy_same meant, ← q) h
      back is (unbounded c i j h) = absurd (omega (arith, meant.class_is))
      back is (infeasible c h) = absurd (omega (arith, meant.class_is))

  pub by_unbounded : (k : ℕ) → head.class ≡ 2 → head.start ≡ suc k → Decides (Second p k × AcceptedUnbounded (AnchorAnd k) p (strategy_of picks)) r → Decides (Accepted p a) r
  by_unbounded k e f d = decides_as (λ h. unbounded (meant.class_is ∙ e) (meant.start_is ∙ f) h.0 (rw (← strategy_same meant) h.1)) back d
    where
      back : Accepted p a → Second p k × AcceptedUnbounded (AnchorAnd k) p (strategy_of picks)
      back (optimal c g h) = absurd (omega (arith, meant.class_is))
      back (unbounded {k = l} c i j h) =
          let q : l ≡ k = omega (arith, i, meant.start_is) in
          subst (λ (x : ℕ). Second p x × AcceptedUnbounded (AnchorAnd x) p (strategy_of picks)) q (j, rw (strategy_same meant) h)
      back (infeasible c h) = absurd (omega (arith, meant.class_is))

  pub by_infeasible : head.class ≡ 3 → Decides (AcceptedInfeasible (start_of p head.start) p (strategy_of picks)) r → Decides (Accepted p a) r
  by_infeasible e d = decides_as (λ h. infeasible (meant.class_is ∙ e) (rw (meant.start_is, ← strategy_same meant) h)) back d
    where
      back : Accepted p a → AcceptedInfeasible (start_of p head.start) p (strategy_of picks)
      back (optimal c f h) = absurd (omega (arith, meant.class_is))
      back (unbounded c i j h) = absurd (omega (arith, meant.class_is))
      back (infeasible c h) = rw (← meant.start_is, strategy_same meant) h

-- Class 2 with its start: the variable that it names is of the second list, or not.
pub named_not : {p : Problem} {picks : Strategy} {k : ℕ} {c : Bool} → Decides (Second p k) c → c ≡ false → Decides (Second p k × AcceptedUnbounded (AnchorAnd k) p picks) false
named_not d e = said_no (λ h. d.no e h.0)

pub named_so : {p : Problem} {picks : Strategy} {k : ℕ} {c r : Bool} → Decides (Second p k) c → c ≡ true → Decides (AcceptedUnbounded (AnchorAnd k) p picks) r
    → Decides (Second p k × AcceptedUnbounded (AnchorAnd k) p picks) r
named_so d e = decides_as (λ h. (d.yes e, h)) (λ h. h.1)

-- A start of class 2 is 1 + the number of a variable.
pub start_names : {n m : ℕ} {head : Head} {stamps picks : List ℕ} → Formed n m head stamps picks → head.class ≡ class_unbounded
    → (0 < head.start) × (head.start ≤ suc n)
start_names {n} {head = head} f e =
    let both = (and-eq-true_iff (ltb 0 head.start) (leb head.start (suc n))).0 (rw e at f.start_fits_is) in
    (ltb-true 0 head.start both.0, leb-true head.start (suc n) both.1)

-- The highest pick of each class.
pub highest_optimal : (n m class : ℕ) → class ≡ class_optimal → highest_pick class n m ≡ m + 1
highest_optimal n m class e = rw e (omega arith)

pub highest_unbounded : (n m class : ℕ) → class ≡ class_unbounded → highest_pick class n m ≡ n + 1
highest_unbounded n m class e = rw e (omega arith)

pub highest_infeasible : (n m class : ℕ) → class ≡ class_infeasible → highest_pick class n m ≡ m + 1
highest_infeasible n m class e = rw e (omega arith)

-- There is no other class.
pub class_zero : {class : ℕ} → class ≡ 0 → known_class class ≡ true → ⊥
class_zero e k = false≢true (rw e at k)

pub class_other : {class : ℕ} → known_class class ≡ true → (class ≡ 1 → ⊥) → (class ≡ 2 → ⊥) → (class ≡ 3 → ⊥) → ⊥
class_other {class} k a b c = false≢true (rw (ne_eqb class 1 a, ne_eqb class 2 b, ne_eqb class 3 c) at k)
