-- The largest of coefficient + variable, found on plain sums of a coefficient and a low value: a sum of two whole numbers
-- lies above the limit, a sum with a blank below it, so that one test at the end tells them apart.
use Prim.Native.Nat.{ℕ, zero, suc, max, ◌+◌, ◌*◌, ◌-◌, ◌≤◌, ◌<◌}
use mathlib.Core.Path.{◌≡◌, refl, sym, ap, subst, ◌∙◌}
use mathlib.Core.Bool.{Bool, true, false, cond}
use mathlib.Core.Logic.{⊎_elim}
use mathlib.Core.List.{List}
use native.Mathlib.Omega.{arith}
use native.Mathlib.Nat.{eq-zero-or-pos}
use lib.Dec.{leb}
use lib.ListN.{get_or}
use borrow.Author.Tests.{leb-true, leb-false, lt-ltb, le-ltb}
use Rattle.base.specs.Numbers.{most, uppermost}
use Rattle.base.proofs.Numbers.{nat_le_or_lt, same_or_not, most_one, most_under, uppermost_more, uppermost_most}
use Rattle.definitions.specs.Limits.{signed_half, signed_full}
use Rattle.definitions.specs.Tropical.{Trop, bot, plus, larger, largest, ◌⊑◌, blank_least}
use Rattle.definitions.specs.Offset.{trop_of, off}
use Rattle.definitions.proofs.Tropical.{⊑_refl, ⊑_antisym, larger_left, larger_right, larger_least, largest_above, largest_least, largest_ext}
use Rattle.definitions.proofs.Offset.{off_off, trop_zero, trop_order, plus_trop, plus_trop_zero}
use Rattle.records.specs.Decoded.{Near}
use Rattle.policy_iteration.specs.Tables.{raised_limit, value_limit, low_half, fold_limit, low_fold, side_most, side_least, high, highs, Table, Ranged, Lows}
use Rattle.policy_iteration.specs.Ends.{Holds}
use Rattle.policy_iteration.specs.declared.ends.Ends.{Ends}
use Rattle.policy_iteration.specs.Rounds.{folded_at, folded, sums, SideIs}
use Rattle.policy_iteration.proofs.Low.{high_zero, high_whole, high_mono, highs_at}

-- std's word for the larger of two.
pub most_max : (a b : ℕ) → max a b ≡ most a b
most_max a b = ⊎_elim (λ h. omega arith) (λ h. omega arith) (most_one a b)

-- ---- one sum

pub folded_low : {limit : ℕ} (k : ℕ) → k < limit → folded_at limit k ≡ 0
unfolding folded_at
folded_low {limit} k h = rw (lt-ltb k limit h)

pub folded_high : {limit : ℕ} (k : ℕ) → limit ≤ k → folded_at limit k ≡ k - signed_half
unfolding folded_at
folded_high {limit} k h = rw (le-ltb k limit h)

pub folded_mono : (limit a b : ℕ) → a ≤ b → folded_at limit a ≤ folded_at limit b
folded_mono limit a b h = ⊎_elim
    (λ (l : limit ≤ a). omega (arith, folded_high a l, folded_high {limit = limit} b (omega arith)))
    (λ (l : a < limit). omega (arith, folded_low a l))
    (nat_le_or_lt limit a)

-- A sum of two offset numbers, folded, stands for the sum.
pub folded_offsets : (a b : ℕ) → Near raised_limit a → Near value_limit b → trop_of (folded_at fold_limit (a + b)) ≡ plus (trop_of a) (trop_of b)
folded_offsets a b na nb = ⊎_elim left_blank (λ (p : 0 < a). ⊎_elim (right_blank p) (both p) (eq-zero-or-pos b)) (eq-zero-or-pos a)
  where
    left_blank : a ≡ 0 → trop_of (folded_at fold_limit (a + b)) ≡ plus (trop_of a) (trop_of b)
    left_blank z = rw (folded_low {limit = fold_limit} (a + b) (omega (arith, nb.hi)), z) (trop_zero ∙ sym (plus_trop_zero (trop_of b)).0)

    right_blank : 0 < a → b ≡ 0 → trop_of (folded_at fold_limit (a + b)) ≡ plus (trop_of a) (trop_of b)
    right_blank p z = rw (folded_low {limit = fold_limit} (a + b) (omega (arith, na.hi)), z) (trop_zero ∙ sym (plus_trop_zero (trop_of a)).1)

    both : 0 < a → 0 < b → trop_of (folded_at fold_limit (a + b)) ≡ plus (trop_of a) (trop_of b)
    both p q =
        let l : signed_half ≤ a + raised_limit = na.lo p in
        let r : signed_half ≤ b + value_limit = nb.lo q in
        rw (folded_high {limit = fold_limit} (a + b) (omega arith)) (sym (plus_trop a b p q (omega arith)))

-- On low values the fold is the same.
fold_low : (a b : ℕ) → Near raised_limit a → Near value_limit (high b) → high (folded (a + b)) ≡ folded_at fold_limit (a + high b)
fold_low a b na nb = ⊎_elim blank whole (eq-zero-or-pos b)
  where
    blank : b ≡ 0 → high (folded (a + b)) ≡ folded_at fold_limit (a + high b)
    blank z = rw (z, high_zero, folded_low {limit = low_fold} (a + 0) (omega (arith, na.hi)), folded_low {limit = fold_limit} (a + 0) (omega (arith, na.hi))) high_zero

    whole : 0 < b → high (folded (a + b)) ≡ folded_at fold_limit (a + high b)
    whole q =
        let e : high b ≡ b + low_half = high_whole b q in
        let r : signed_half ≤ high b + value_limit = nb.lo (omega arith) in
        ⊎_elim
        (λ (z : a ≡ 0). rw (folded_low {limit = low_fold} (a + b) (omega (arith, nb.hi)), folded_low {limit = fold_limit} (a + high b) (omega (arith, nb.hi))) high_zero)
        (λ (p : 0 < a).
        let l : signed_half ≤ a + raised_limit = na.lo p in
        let f : folded (a + b) ≡ a + b - signed_half = folded_high {limit = low_fold} (a + b) (omega arith) in
        let g : folded_at fold_limit (a + high b) ≡ a + high b - signed_half = folded_high {limit = fold_limit} (a + high b) (omega arith) in
        omega (arith, high_whole (folded (a + b)) (omega arith)))
        (eq-zero-or-pos a)

-- The sum of a coefficient and a low value, folded, stands for the sum.
folded_sum : (a b : ℕ) → Near raised_limit a → Near value_limit (high b) → trop_of (high (folded (a + b))) ≡ plus (trop_of a) (trop_of (high b))
folded_sum a b na nb = ap trop_of (fold_low a b na nb) ∙ folded_offsets a (high b) na nb

-- ---- the largest

larger_of : {x y : Trop} → x ⊑ y → larger x y ≡ y
larger_of {x} {y} h = ⊑_antisym (larger_least h (⊑_refl y)) (larger_right x y)

larger_over : {x y : Trop} → y ⊑ x → larger x y ≡ x
larger_over {x} {y} h = ⊑_antisym (larger_least (⊑_refl x) h) (larger_left x y)

folded_most : (a b : ℕ) → trop_of (high (folded (most a b))) ≡ larger (trop_of (high (folded a))) (trop_of (high (folded b)))
unfolding most
folded_most a b = go (leb a b) refl
  where
    up : (a b : ℕ) → a ≤ b → trop_of (high (folded a)) ⊑ trop_of (high (folded b))
    up a b h = (trop_order (high (folded a)) (high (folded b))).1 (high_mono (folded a) (folded b) (folded_mono low_fold a b h))

    go : (t : Bool) → leb a b ≡ t → trop_of (high (folded (cond t b a))) ≡ larger (trop_of (high (folded a))) (trop_of (high (folded b)))
    go true e = sym (larger_of (up a b (leb-true a b e)))
    go false e =
        let l : b < a = leb-false a b e in
        sym (larger_over (up b a (omega arith)))

folded_uppermost : (f : ℕ → ℕ) (k : ℕ) → trop_of (high (folded (uppermost f k))) ≡ largest (λ l. trop_of (high (folded (f l)))) k
unfolding uppermost largest
folded_uppermost f zero = rw (folded_low {limit = low_fold} 0 (omega arith), high_zero) trop_zero
folded_uppermost f (suc k) = folded_most (uppermost f k) (f k) ∙ ap (λ (z : Trop). larger z (trop_of (high (folded (f k))))) (folded_uppermost f k)

-- ---- the loop

-- One sum more, where the numbers are given as fields.
pub uppermost_field : (f : ℕ → ℕ) (k best w r : ℕ) → off best ≡ uppermost f k → off w ≡ f k → off r ≡ most (off best) (off w) → off r ≡ uppermost f (k + 1)
uppermost_field f k best w r e d g = uppermost_more f k (off best) (off r) e (g ∙ rw d)

-- A field stands for the number that it was made of.
pub field_back : (v w : ℕ) → v < signed_full → w ≡ off v → off w ≡ v
field_back v w h e = ap off e ∙ off_off v h

-- A low value has 32 bits.
pub low_fits : (x : List ℕ) → Ranged (highs x) → (l : ℕ) → get_or x l 0 < signed_full
low_fits x g l = ⊎_elim
    (λ (z : get_or x l 0 ≡ 0). omega arith)
    (λ (q : 0 < get_or x l 0). omega (arith, high_whole (get_or x l 0) q, highs_at x l, (g.near l).hi))
    (eq-zero-or-pos (get_or x l 0))

-- The sum of a coefficient and a low value has 32 bits.
pub sum_most : (table x : List ℕ) → Table raised_limit table → Ranged (highs x) → (row l : ℕ) → sums table row x l ≤ (signed_half + side_most)
sum_most table x t g row l = ⊎_elim
    (λ (z : get_or x l 0 ≡ 0). omega (arith, (t.near (row * 32 + l)).hi))
    (λ (q : 0 < get_or x l 0). omega (arith, (t.near (row * 32 + l)).hi, high_whole (get_or x l 0) q, highs_at x l, (g.near l).hi))
    (eq-zero-or-pos (get_or x l 0))

-- A fold within these bounds.
folded_within : (k : ℕ) → k ≤ (signed_half + side_most) → (folded k ≤ side_most) × (0 < folded k → side_least ≤ folded k)
folded_within k few = (
  ⊎_elim (λ h. omega (arith, folded_high _ h)) (λ h. omega (arith, folded_low _ h)) (nat_le_or_lt low_fold k),
  λ p. ⊎_elim (λ h. omega (arith, folded_high _ h)) (λ h. absurd (omega (arith, folded_low _ h))) (nat_le_or_lt low_fold k),
)

-- The largest over all 32 places is that over the first ones, where the others are blank.
largest_rest : (f : ℕ → Trop) (k : ℕ) → k ≤ 32 → ((l : ℕ) → k ≤ l → f l ≡ bot) → largest f 32 ≡ largest f k
largest_rest f k h b = ⊑_antisym
    (largest_least f 32 (λ j l. ⊎_elim (λ (e : k ≤ j). subst (λ (z : Trop). z ⊑ largest f k) (sym (b j e)) blank_least) (largest_above f k j) (nat_le_or_lt k j)))
    (largest_least f k (λ j l. largest_above f 32 j (omega arith)))

module _ (table : List ℕ) (row : ℕ) (x : List ℕ) (width : ℕ) (t : Table raised_limit table) (g : Lows width x) (w : width ≤ 32) where
  -- What one place adds to a side.
  abbrev adds : ℕ → Trop
  adds l = plus (trop_of (get_or table (row * 32 + l) 0)) (trop_of (get_or (highs x) l 0))

  adds_folded : (l : ℕ) → trop_of (high (folded (sums table row x l))) ≡ adds l
  adds_folded l = rw (highs_at x l) (folded_sum _ _ (t.near (row * 32 + l)) (rw (highs_at x l) at (g.ranged.near l)))

  -- Nothing, past the width and where the coefficient is blank.
  adds_past : (l : ℕ) → width ≤ l → adds l ≡ bot
  adds_past l b = rw (highs_at x l, g.rest l b, high_zero) (plus_trop_zero (trop_of (get_or table (row * 32 + l) 0))).1

  adds_blank : (l : ℕ) → get_or table (row * 32 + l) 0 ≡ 0 → adds l ≡ bot
  adds_blank l e = rw e (plus_trop_zero (trop_of (get_or (highs x) l 0))).0

  -- A number that stands for the largest is the side, once folded.
  side_is : (best : ℕ) → best ≤ (signed_half + side_most) → trop_of (high (folded best)) ≡ largest adds width → SideIs table row (highs x) width (folded best)
  side_is best few e = record { is = e; most = (folded_within best few).0; least = (folded_within best few).1 }

  -- What the loop ends with.
  pub side_end : (l best : ℕ) → l ≤ 32 → 32 ≤ l → best ≡ uppermost (sums table row x) l → SideIs table row (highs x) width (folded best)
  side_end l best h k e = side_is best
      (rw eq (uppermost_most (sums table row x) 32 (signed_half + side_most) (λ l b. sum_most table x t g.ranged row l)))
      (rw eq (folded_uppermost (sums table row x) 32 ∙ largest_ext _ _ 32 (λ l b. adds_folded l) ∙ largest_rest adds width w adds_past))
    where
      eq : best ≡ uppermost (sums table row x) 32
      eq = let z : l ≡ 32 = omega arith in e ∙ ap (uppermost (sums table row x)) z

  -- What one place adds is at most the side.
  adds_under : (l : ℕ) → adds l ⊑ largest adds width
  adds_under l = ⊎_elim (λ (b : width ≤ l). subst (λ (z : Trop). z ⊑ largest adds width) (sym (adds_past l b)) blank_least) (largest_above adds width l) (nat_le_or_lt width l)

  -- The larger of the sums at the ends is the side.
  pub side_ends : (ends : Ends) (best : ℕ) → Holds table row ends → best ≡ most (sums table row x ends.first) (sums table row x ends.last)
      → SideIs table row (highs x) width (folded best)
  side_ends ends best n e = side_is best
      (rw e (most_under _ _ _ (sum_most table x t g.ranged row ends.first) (sum_most table x t g.ranged row ends.last)))
      (rw e (folded_most _ _ ∙ ap (λ (z : Trop). larger z (trop_of (high (folded (sums table row x ends.last))))) (adds_folded ends.first) ∙ ap (larger (adds ends.first)) (adds_folded ends.last) ∙ both))
    where
      under : (l : ℕ) → l < width → adds l ⊑ larger (adds ends.first) (adds ends.last)
      under l b = ⊎_elim
          (λ (p : l ≡ ends.first). subst (λ (i : ℕ). adds i ⊑ larger (adds ends.first) (adds ends.last)) (sym p) (larger_left _ _))
          (λ p. ⊎_elim
          (λ (q : l ≡ ends.last). subst (λ (i : ℕ). adds i ⊑ larger (adds ends.first) (adds ends.last)) (sym q) (larger_right _ _))
          (λ q. subst (λ (z : Trop). z ⊑ larger (adds ends.first) (adds ends.last)) (sym (adds_blank l (n.others l (omega arith) p q))) blank_least)
          (same_or_not l ends.last))
          (same_or_not l ends.first)

      both : larger (adds ends.first) (adds ends.last) ≡ largest adds width
      both = ⊑_antisym (larger_least (adds_under ends.first) (adds_under ends.last)) (largest_least adds width under)
