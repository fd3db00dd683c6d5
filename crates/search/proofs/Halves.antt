-- Laws of the halving: the middle of offset numbers is the middle, a trial at it gives the next bracket, and a bracket of width 1 has
-- the least span as its high.
use Prim.Native.Nat.{ℕ, suc, ◌+◌, ◌-◌, ◌/◌, ◌≤◌, ◌<◌}
use mathlib.Core.Path.{◌≡◌, refl, sym, ap, subst, ◌∙◌}
use mathlib.Core.Bool.{Bool, true, false}
use native.Mathlib.Omega.{arith}
use lib.Dec.{T}
use lib.IntN.{ℤ, nat_abs, ◌+ℤ◌}
use lib.Signed.{◌≤ℤ◌, le_z}
use Rattle.base.specs.Decides.{Decides}
use Rattle.definitions.specs.Limits.{signed_half, span_limit, most_trials, class_optimal}
use Rattle.definitions.specs.Bisection.{Bracket, Brackets, opening, middle, next, width, Halved, counted, halved, trials_unbounded, trials_optimal}
use Rattle.definitions.proofs.Whole.{whole, plus_read, subℕ_read, abs_show}
use Rattle.definitions.proofs.Bisection.{half_up_is, width_is, Inside, middle_inside, halved_stop, halved_on, following, few_trials}
use Rattle.search.specs.Trials.{whole_of, top_offset, lowest_offset, PossibleBy, bracket_of, Between, Counted, Halving, LeastBy, FoundBy}

-- ---- the middle

-- The middle of the offset numbers stands for the middle.
pub middle_whole : (low high : ℕ) → whole_of ((low + high + 1) / 2) ≡ middle (bracket_of low high)
unfolding middle
middle_whole low high =
    let h = half_up_is (whole_of high +ℤ whole_of low) in
    omega (
      whole,
      h.least,
      h.most,
      plus_read (whole_of high) (whole_of low),
      subℕ_read high signed_half,
      subℕ_read low signed_half,
      subℕ_read ((low + high + 1) / 2) signed_half,
    )

-- The next brackets.
pub next_possible : (low high half : ℕ) → whole_of half ≡ middle (bracket_of low high) → bracket_of low half ≡ next (bracket_of low high) true
unfolding next
next_possible low high half e = rw e

pub next_impossible : (low high half : ℕ) → whole_of half ≡ middle (bracket_of low high) → bracket_of half high ≡ next (bracket_of low high) false
unfolding next
next_impossible low high half e = rw e

-- ---- the count

true_of : (t : Bool) → T t → t ≡ true
true_of true h = refl
true_of false h = absurd h

false_of : (t : Bool) → (T t → ⊥) → t ≡ false
false_of true h = absurd (h tt)
false_of false h = refl

module _ (low high : ℕ) (b : low + 1 < high) where
  ordered_whole : whole_of low ≤ℤ whole_of high
  ordered_whole = omega (whole, subℕ_read low signed_half, subℕ_read high signed_half)

  wide : 1 < width (bracket_of low high)
  wide = omega (arith, width_is (bracket_of low high) ordered_whole, subℕ_read low signed_half, subℕ_read high signed_half)

  inside : Inside (bracket_of low high) (middle (bracket_of low high))
  inside = middle_inside (bracket_of low high) ordered_whole wide

  -- A least span in the next bracket was in this one, and decides as the trial did.
  was_in : (t : Bool) (s : ℤ) → Brackets (next (bracket_of low high) t) s → Brackets (bracket_of low high) s
  unfolding next
  was_in true s k = record { above = k.above; within = omega (whole, k.within, inside.below) }
  was_in false s k = record { above = omega (whole, k.above, inside.above); within = k.within }

  decides : (t : Bool) (s : ℤ) → Brackets (next (bracket_of low high) t) s → le_z s (middle (bracket_of low high)) ≡ t
  unfolding next
  decides true s k = true_of _ k.within.le
  decides false s k = false_of _ (λ h. let l : s ≤ℤ middle (bracket_of low high) = record { le = h } in omega (whole, k.above))

  -- A wide bracket wants a halving.
  pub halvings_left : (s : ℤ) → Brackets (bracket_of low high) s → 0 < (halved (bracket_of low high) s).halvings
  unfolding counted
  halvings_left s k =
      let d : (halved (bracket_of low high) s).halvings ≡ suc (halved (following (bracket_of low high) s) s).halvings =
      ap (λ (z : Halved). z.halvings) (halved_on (bracket_of low high) s k wide) in
      omega arith

  -- One trial more, one halving less.
  pub counted_on : (low' high' trials : ℕ) (t : Bool) → bracket_of low' high' ≡ next (bracket_of low high) t
      → Counted low high trials → Counted low' high' (trials + 1)
  unfolding counted
  counted_on low' high' trials t e c = record { count = count }
    where
      count : (s : ℤ) → Brackets (bracket_of low' high') s → trials_optimal s ≡ trials + 1 + (halved (bracket_of low' high') s).halvings
      count s k =
          let r : Brackets (next (bracket_of low high) t) s = subst (λ (z : Bracket). Brackets z s) e k in
          let q : Brackets (bracket_of low high) s = was_in t s r in
          let f : following (bracket_of low high) s ≡ bracket_of low' high' = ap (next (bracket_of low high)) (decides t s r) ∙ sym e in
          let g : halved (bracket_of low high) s ≡ counted (halved (bracket_of low' high') s) =
          halved_on (bracket_of low high) s q wide ∙ ap (λ (z : Bracket). counted (halved z s)) f in
          let d : (halved (bracket_of low high) s).halvings ≡ suc (halved (bracket_of low' high') s).halvings = ap (λ (z : Halved). z.halvings) g in
          omega (arith, c.count s q)

-- Two offset numbers that stand for the same are the same.
pub whole_injective : (a b : ℕ) → whole_of a ≡ whole_of b → a ≡ b
whole_injective a b e = omega (whole, subℕ_read a signed_half, subℕ_read b signed_half)

-- The numbers of the next bracket.
pub possible_numbers : (low high low' high' : ℕ) → bracket_of low' high' ≡ next (bracket_of low high) true → (low' ≡ low) × (high' ≡ (low + high + 1) / 2)
unfolding next
possible_numbers low high low' high' e = (
  whole_injective low' low (ap (λ (z : Bracket). z.low) e),
  whole_injective high' ((low + high + 1) / 2) (ap (λ (z : Bracket). z.high) e ∙ sym (middle_whole low high)),
)

pub impossible_numbers : (low high low' high' : ℕ) → bracket_of low' high' ≡ next (bracket_of low high) false → (low' ≡ (low + high + 1) / 2) × (high' ≡ high)
unfolding next
impossible_numbers low high low' high' e = (
  whole_injective low' ((low + high + 1) / 2) (ap (λ (z : Bracket). z.low) e ∙ sym (middle_whole low high)),
  whole_injective high' high (ap (λ (z : Bracket). z.high) e),
)

-- ---- the halving

-- Two trials come before it.
pub two_at_least : (s : ℤ) → 2 ≤ trials_optimal s
unfolding trials_optimal
two_at_least s = omega arith

-- The bracket at first.
pub halving_start : {second : ℕ} → PossibleBy second top_offset → (PossibleBy second lowest_offset → ⊥) → Halving second lowest_offset top_offset trials_unbounded
unfolding opening trials_optimal
halving_start h k = record {
  lowest = omega arith;
  highest = omega arith;
  impossible = k;
  possible = h;
  counted = record { count = λ s k. refl };
}

module _ {second low high trials : ℕ} (h : Halving second low high trials) where
  -- Low lies below high.
  pub halving_apart : low < high
  halving_apart = omega (arith, h.impossible, h.possible)

  high_brackets : Brackets (bracket_of low high) (whole_of high)
  high_brackets = record { above = omega (whole, halving_apart, subℕ_read low signed_half, subℕ_read high signed_half); within = omega whole }

  high_within : nat_abs (whole_of high) ≤ span_limit
  high_within = abs_show (whole_of high) (omega (arith, h.highest, subℕ_read high signed_half)) (omega (arith, h.lowest, halving_apart, subℕ_read high signed_half))

  -- The trials counted are few.
  pub halving_few : trials ≤ most_trials
  halving_few = omega (arith, h.counted.count (whole_of high) high_brackets, few_trials (whole_of high) high_within)

  -- A wide bracket wants one more.
  pub halving_more : low + 1 < high → trials < most_trials
  halving_more w =
      omega (
        arith,
        h.counted.count (whole_of high) high_brackets,
        halvings_left low high w (whole_of high) high_brackets,
        few_trials (whole_of high) high_within,
      )

  -- The least span lies in the bracket.
  pub least_brackets : {span : ℕ} → LeastBy second span → Brackets (bracket_of low high) (whole_of span)
  least_brackets {span} l = record {
    above = omega (whole, below, subℕ_read low signed_half, subℕ_read span signed_half);
    within = omega (whole, within, subℕ_read span signed_half, subℕ_read high signed_half);
  }
    where
      below : low < span
      below = omega (arith, h.impossible, l.possible)

      within : span ≤ high
      within = omega (arith, h.possible, l.impossible, l.lowest)

  -- A bracket of width 1: high is the least span, and the trials counted are those of the bisection.
  pub halving_end : high - low ≡ 1 → FoundBy second class_optimal high trials
  halving_end e = rw (← count) (FoundBy.least (record {
    possible = h.possible;
    impossible = λ k. omega (arith, h.impossible);
    lowest = omega (arith, h.lowest);
    highest = h.highest;
  }))
    where
      ordered : whole_of low ≤ℤ whole_of high
      ordered = omega (whole, halving_apart, subℕ_read low signed_half, subℕ_read high signed_half)

      narrow : width (bracket_of low high) ≡ 1
      narrow = omega (arith, width_is (bracket_of low high) ordered, subℕ_read low signed_half, subℕ_read high signed_half)

      count : trials_optimal (whole_of high) ≡ trials
      count =
          let z : (halved (bracket_of low high) (whole_of high)).halvings ≡ 0 = ap (λ (z : Halved). z.halvings) (halved_stop (bracket_of low high) (whole_of high) narrow) in
          omega (arith, h.counted.count (whole_of high) high_brackets)

  -- A bracket that is not 1 wide is wider.
  pub wider : (high - low ≡ 1 → ⊥) → low + 1 < high
  wider d = omega (arith, halving_apart)

module _ {second low high trials half : ℕ} (h : Halving second low high trials) (w : low + 1 < high) (b : Between low high half) (low' high' : ℕ) where
  -- A trial at the middle gives the next bracket, and is counted.
  pub halving_on : (t : Bool) → Decides (PossibleBy second half) t → bracket_of low' high' ≡ next (bracket_of low high) t
      → Halving second low' high' (trials + 1)
  halving_on true d g =
      let n = possible_numbers low high low' high' g in
      let p = d.yes refl in
      record {
        lowest = omega (arith, h.lowest);
        highest = omega (arith, h.highest);
        impossible = λ k. h.impossible (omega arith);
        possible = omega (arith, b.is);
        counted = counted_on low high w low' high' trials true g h.counted;
      }
  halving_on false d g =
      let n = impossible_numbers low high low' high' g in
      record {
        lowest = omega (arith, h.lowest);
        highest = omega (arith, h.highest);
        impossible = λ k. d.no refl (omega (arith, b.is));
        possible = omega (arith, h.possible);
        counted = counted_on low high w low' high' trials false g h.counted;
      }

  -- The bracket becomes narrower.
  pub halving_falls : (t : Bool) → bracket_of low' high' ≡ next (bracket_of low high) t → high' - low' < high - low
  halving_falls true g = let n = possible_numbers low high low' high' g in omega arith
  halving_falls false g = let n = impossible_numbers low high low' high' g in omega arith
