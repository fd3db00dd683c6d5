-- Laws of offset numbers: what they stand for, their fields, the tests of form on them, and their arithmetic.
use Prim.Native.Nat.{ℕ, ◌+◌, ◌-◌, ◌≤◌, ◌<◌}
use mathlib.Core.Path.{◌≡◌, refl, ap, ap₂, sym, subst, ◌∙◌}
use mathlib.Core.Bool.{Bool, true, false, cond, ◌&&◌, ◌||◌, and-eq-true_iff}
use mathlib.Core.Logic.{◌⊎◌, inl, inr, ⊎_elim, ◌↔◌}
use native.Mathlib.Omega.{arith}
use native.Mathlib.Nat.{eq-zero-or-pos}
use lib.Dec.{eqb, leb}
use lib.IntN.{ℤ, pos, negsuc, sub_ℕ, nat_abs, ◌+ℤ◌, ◌-ℤ◌}
use lib.Signed.{◌≤ℤ◌}
use borrow.Author.Tests.{leb-true, leb-false, eqb-true, ne_eqb, eq-eqb, lt-ltb, le-ltb, le-leb, lt-leb}
use Rattle.base.proofs.Numbers.{nat_le_or_lt, same_or_not}
use Rattle.definitions.specs.Limits.{signed_half, signed_full}
use Rattle.definitions.specs.Tropical.{Trop, bot, fin, plus, ◌⊑◌, blank_least, whole_least, larger}
use Rattle.definitions.specs.Bytes.{signed, trop_field, field_of, whole_within, blank_or_within}
use Rattle.definitions.specs.AnswerRecord.{is_zero, is_blank}
use Rattle.definitions.specs.Offset.{trop_of, off}
use Rattle.definitions.proofs.Whole.{up, down, whole, subℕ_read, plus_read, minus_read, abs_read, abs_show}
use Rattle.definitions.proofs.Tropical.{fin_injective, bot_not_fin, fin_below, below_bot, ⊑_refl, ⊑_antisym, plus_bot, larger_left, larger_right, larger_least}

-- ---- what an offset number stands for

-- 0 is blank.
pub trop_zero : trop_of 0 ≡ bot
unfolding trop_of
trop_zero = refl

-- Any other number is whole.
pub trop_fin : (k : ℕ) → 0 < k → trop_of k ≡ fin (sub_ℕ k signed_half)
unfolding trop_of
trop_fin k h = rw (ne_eqb k 0 (omega arith))

-- A number that stands for z is z + 2³¹.
pub trop_read : (k : ℕ) {z : ℤ} → trop_of k ≡ fin z → (0 < k) × (up z + signed_half ≡ k + down z)
trop_read k {z} e = ⊎_elim
    (λ (b : k ≡ 0). absurd (bot_not_fin (sym trop_zero ∙ (rw b at e))))
    (λ (h : 0 < k). (h, subst (λ (y : ℤ). up y + signed_half ≡ k + down y) (fin_injective (sym (trop_fin k h) ∙ e)) (subℕ_read k signed_half)))
    (eq-zero-or-pos k)

-- z + 2³¹, where it is above 0, stands for z.
pub trop_show : (k : ℕ) (z : ℤ) → 0 < k → up z + signed_half ≡ k + down z → trop_of k ≡ fin z
trop_show k z h e =
    let r : sub_ℕ k signed_half ≡ z = omega (whole, subℕ_read k signed_half) in
    trop_fin k h ∙ ap fin r

-- Two numbers that stand for the same are the same.
pub trop_of_injective : (a b : ℕ) → trop_of a ≡ trop_of b → a ≡ b
trop_of_injective a b e = ⊎_elim
    (λ (h : a ≡ 0). ⊎_elim (λ (k : b ≡ 0). omega arith) (λ (k : 0 < b). absurd (bot_not_fin (sym trop_zero ∙ (rw h at e) ∙ trop_fin b k))) (eq-zero-or-pos b))
    (λ (h : 0 < a). omega (arith, trop_read b (sym e ∙ trop_fin a h), subℕ_read a signed_half))
    (eq-zero-or-pos a)

-- ---- fields

-- The offset number of a field is below 2³².
pub off_bound : (w : ℕ) → off w < signed_full
unfolding off
off_bound w = omega arith

-- The offset of the offset is the field again.
pub off_off : (w : ℕ) → w < signed_full → off (off w) ≡ w
unfolding off
off_off w h = omega arith

-- A field read as signed lies 2³¹ under its offset number.
pub signed_read : (w : ℕ) → w < signed_full → up (signed w) + signed_half ≡ off w + down (signed w)
unfolding signed off
signed_read w h = ⊎_elim
    (λ (l : signed_half ≤ w). rw (le-ltb w signed_half l) (omega (arith, subℕ_read w signed_full)))
    (λ (l : w < signed_half). rw (lt-ltb w signed_half l) (omega arith))
    (nat_le_or_lt signed_half w)

-- The field 2³¹ is blank.
pub field_half : trop_field signed_half ≡ bot
unfolding trop_field
field_half = refl

-- Any other field is whole.
pub field_fin : (w : ℕ) → (w ≡ signed_half → ⊥) → trop_field w ≡ fin (signed w)
unfolding trop_field
field_fin w h = rw (ne_eqb w signed_half h)

-- The offset number of a field stands for what the field stands for.
pub trop_off : (w : ℕ) → w < signed_full → trop_of (off w) ≡ trop_field w
unfolding off
trop_off w h = ⊎_elim
    (λ (e : w ≡ signed_half). rw e (trop_zero ∙ sym field_half))
    (λ (n : w ≡ signed_half → ⊥). trop_show (off w) (signed w) (omega arith) (signed_read w h) ∙ sym (field_fin w n))
    (same_or_not w signed_half)

-- A number that is blank or less than 2³¹ in size, so that a 4-byte field holds it.
pub record FitsField (x : Trop) : Type 0 where
  pub size : (z : ℤ) → x ≡ fin z → nat_abs z < signed_half

-- A whole number that is blank or within a limit is within it.
pub within_size : (limit : ℕ) {x : Trop} {z : ℤ} → blank_or_within limit x ≡ true → x ≡ fin z → nat_abs z ≤ limit
unfolding blank_or_within
within_size limit {z = z} t e = leb-true (nat_abs z) limit (rw e at t)

-- A number within a limit below 2³¹, or blank, fits a field.
pub within_fits : (limit : ℕ) {x : Trop} → limit < signed_half → blank_or_within limit x ≡ true → FitsField x
within_fits limit l t = record { size = λ z e. let b : nat_abs z ≤ limit = within_size limit t e in omega arith }

-- The field of a number that fits is below 2³².
pub field_of_bound : (x : Trop) → FitsField x → field_of x < signed_full
unfolding field_of
field_of_bound bot f = omega arith
field_of_bound (fin (pos k)) f = omega (arith, f.size (pos k) refl)
field_of_bound (fin (negsuc k)) f = omega arith

-- The offset number of a whole number that fits is it + 2³¹.
pub off_field_of : (z : ℤ) → nat_abs z < signed_half → up z + signed_half ≡ off (field_of (fin z)) + down z
unfolding field_of off
off_field_of (pos k) h = omega arith
off_field_of (negsuc k) h = omega arith

-- The offset number of a number's field stands for it.
pub trop_field_of : (x : Trop) → FitsField x → trop_of (off (field_of x)) ≡ x
unfolding field_of off
trop_field_of bot f = trop_zero
trop_field_of (fin z) f =
    let b : nat_abs z < signed_half = f.size z refl in
    trop_show (off (field_of (fin z))) z (omega (arith, off_field_of z b, abs_read z)) (off_field_of z b)

-- A number's field stands for it.
pub trop_field_field_of : (x : Trop) → FitsField x → trop_field (field_of x) ≡ x
trop_field_field_of x f = sym (trop_off (field_of x) (field_of_bound x f)) ∙ trop_field_of x f

-- What a field stands for fits a field.
pub trop_field_fits : (w : ℕ) → w < signed_full → FitsField (trop_field w)
trop_field_fits w h =
    record {
      size = λ z e.
          let r = trop_read (off w) (trop_off w h ∙ e) in
          let b : nat_abs z ≤ signed_half - 1 = abs_show z (omega (arith, off_bound w)) (omega arith) in
          omega arith;
    }

-- What a field stands for has that field.
pub field_of_trop_field : (w : ℕ) → w < signed_full → field_of (trop_field w) ≡ w
field_of_trop_field w h =
    let f = trop_field_fits w h in
    let e : off (field_of (trop_field w)) ≡ off w = trop_of_injective (off (field_of (trop_field w))) (off w) (trop_field_of (trop_field w) f ∙ sym (trop_off w h)) in
    sym (off_off (field_of (trop_field w)) (field_of_bound (trop_field w) f)) ∙ ap off e ∙ off_off w h

-- ---- the tests of form

-- Two tests that pass together are equal.
same_test : (s t : Bool) → (s ≡ true → t ≡ true) → (t ≡ true → s ≡ true) → s ≡ t
same_test true t f g = sym (f refl)
same_test false true f g = g refl
same_test false false f g = refl

-- Blank: the offset number is 0.
pub blank_offset : (k : ℕ) → is_blank (trop_of k) ≡ eqb k 0
unfolding is_blank trop_of
blank_offset k = go (eqb k 0)
  where
    go : (t : Bool) → is_blank (cond t bot (fin (sub_ℕ k signed_half))) ≡ t
    go true = refl
    go false = refl

-- Blank or within a limit is blank, or whole and within it.
pub within_split : (limit : ℕ) (x : Trop) → blank_or_within limit x ≡ (is_blank x || whole_within limit x)
unfolding blank_or_within whole_within is_blank
within_split limit bot = refl
within_split limit (fin z) = refl

-- Whole and within a limit below 2³¹: the offset number lies between 2³¹ less the limit and 2³¹ plus the limit.
pub whole_offset : (limit k : ℕ) → limit < signed_half → whole_within limit (trop_of k) ≡ (leb signed_half (k + limit) && leb k (signed_half + limit))
unfolding whole_within
whole_offset limit k l = ⊎_elim at_blank at_whole (eq-zero-or-pos k)
  where
    at_blank : k ≡ 0 → whole_within limit (trop_of k) ≡ (leb signed_half (k + limit) && leb k (signed_half + limit))
    at_blank e = rw (e, trop_zero, lt-leb signed_half (0 + limit) (omega arith))

    at_whole : 0 < k → whole_within limit (trop_of k) ≡ (leb signed_half (k + limit) && leb k (signed_half + limit))
    at_whole h =
        let z : ℤ = sub_ℕ k signed_half in
        let both = and-eq-true_iff (leb signed_half (k + limit)) (leb k (signed_half + limit)) in
        rw (trop_fin k h)
        (same_test (leb (nat_abs z) limit) (leb signed_half (k + limit) && leb k (signed_half + limit))
        (λ e. both.1 (
          le-leb signed_half (k + limit) (omega (arith, leb-true (nat_abs z) limit e, abs_read z, subℕ_read k signed_half)),
          le-leb k (signed_half + limit) (omega (arith, leb-true (nat_abs z) limit e, abs_read z, subℕ_read k signed_half)),
        ))
        (λ e. le-leb (nat_abs z) limit (abs_show z
        (omega (arith, leb-true k (signed_half + limit) (both.0 e).1, subℕ_read k signed_half))
        (omega (arith, leb-true signed_half (k + limit) (both.0 e).0, subℕ_read k signed_half)))))

-- Blank or within a limit below 2³¹, on the offset number.
pub within_offset : (limit k : ℕ) → limit < signed_half
    → blank_or_within limit (trop_of k) ≡ (eqb k 0 || (leb signed_half (k + limit) && leb k (signed_half + limit)))
within_offset limit k l = within_split limit (trop_of k) ∙ ap₂ ◌||◌ (blank_offset k) (whole_offset limit k l)

-- The number 0: the offset number is 2³¹.
pub zero_offset : (k : ℕ) → is_zero (trop_of k) ≡ eqb k signed_half
unfolding is_zero
zero_offset k = ⊎_elim
    (λ (e : k ≡ 0). rw (e, trop_zero))
    (λ (h : 0 < k).
    let z : ℤ = sub_ℕ k signed_half in
    rw (trop_fin k h)
    (same_test (eqb (nat_abs z) 0) (eqb k signed_half)
    (λ e. eq-eqb k signed_half (omega (arith, eqb-true (nat_abs z) 0 e, abs_read z, subℕ_read k signed_half)))
    (λ e. eq-eqb (nat_abs z) 0 (let b : nat_abs z ≤ 0 = abs_show z (omega (arith, eqb-true k signed_half e, subℕ_read k signed_half)) (omega (arith, eqb-true k signed_half e, subℕ_read k signed_half)) in omega arith))))
    (eq-zero-or-pos k)

-- Blank or within a limit below 2³¹, as facts of the offset number.
pub within_iff : (limit k : ℕ) → limit < signed_half
    → (blank_or_within limit (trop_of k) ≡ true) ↔ ((k ≡ 0) ⊎ ((signed_half ≤ k + limit) × (k ≤ signed_half + limit)))
within_iff limit k l = (
  λ e. ⊎_elim (λ (z : k ≡ 0). inl z) (λ (h : 0 < k). inr (between h e)) (eq-zero-or-pos k),
  λ s. rw (within_offset limit k l) (⊎_elim (λ (z : k ≡ 0). rw z refl) (λ (b : (signed_half ≤ k + limit) × (k ≤ signed_half + limit)). inside b (eqb k 0)) s),
)
  where
    both : ((leb signed_half (k + limit) && leb k (signed_half + limit)) ≡ true) ↔ ((leb signed_half (k + limit) ≡ true) × (leb k (signed_half + limit) ≡ true))
    both = and-eq-true_iff (leb signed_half (k + limit)) (leb k (signed_half + limit))

    between : 0 < k → blank_or_within limit (trop_of k) ≡ true → (signed_half ≤ k + limit) × (k ≤ signed_half + limit)
    between h e =
        let r = both.0 (rw (within_offset limit k l, ne_eqb k 0 (omega arith)) at e) in
        (leb-true signed_half (k + limit) r.0, leb-true k (signed_half + limit) r.1)

    inside : (signed_half ≤ k + limit) × (k ≤ signed_half + limit) → (t : Bool) → (t || (leb signed_half (k + limit) && leb k (signed_half + limit))) ≡ true
    inside b true = refl
    inside b false = both.1 (le-leb signed_half (k + limit) b.0, le-leb k (signed_half + limit) b.1)

-- ---- arithmetic

-- The order of offset numbers is the order of what they stand for.
pub trop_order : (a b : ℕ) → (trop_of a ⊑ trop_of b) ↔ (a ≤ b)
trop_order a b = (below, above)
  where
    below : trop_of a ⊑ trop_of b → a ≤ b
    below h = ⊎_elim
        (λ (e : a ≡ 0). omega arith)
        (λ (p : 0 < a). ⊎_elim
        (λ (e : b ≡ 0). absurd (bot_not_fin (sym (below_bot (rw (trop_fin a p, e, trop_zero) at h)))))
        (λ (q : 0 < b). omega (whole, fin_below (rw (trop_fin a p, trop_fin b q) at h), subℕ_read a signed_half, subℕ_read b signed_half))
        (eq-zero-or-pos b))
        (eq-zero-or-pos a)

    above : a ≤ b → trop_of a ⊑ trop_of b
    above h = ⊎_elim
        (λ (e : a ≡ 0). rw (e, trop_zero) blank_least)
        (λ (p : 0 < a).
        let r : sub_ℕ a signed_half ≤ℤ sub_ℕ b signed_half = omega (whole, subℕ_read a signed_half, subℕ_read b signed_half) in
        rw (trop_fin a p, trop_fin b (omega arith)) (whole_least r))
        (eq-zero-or-pos a)

-- The larger of two.
pub trop_larger : (a b : ℕ) → larger (trop_of a) (trop_of b) ≡ trop_of (cond (leb a b) b a)
trop_larger a b = go (leb a b) refl
  where
    go : (t : Bool) → leb a b ≡ t → larger (trop_of a) (trop_of b) ≡ trop_of (cond t b a)
    go true e = ⊑_antisym (larger_least ((trop_order a b).1 (leb-true a b e)) (⊑_refl (trop_of b))) (larger_right (trop_of a) (trop_of b))
    go false e =
        let l : b < a = leb-false a b e in
        ⊑_antisym (larger_least (⊑_refl (trop_of a)) ((trop_order b a).1 (omega arith))) (larger_left (trop_of a) (trop_of b))

-- The offset number of a sum of two whole numbers.
pub trop_plus : (a b : ℕ) {x y : ℤ} → trop_of a ≡ fin x → trop_of b ≡ fin y → signed_half < a + b → trop_of (a + b - signed_half) ≡ fin (x +ℤ y)
trop_plus a b {x} {y} e f h = trop_show (a + b - signed_half) (x +ℤ y) (omega arith) (omega (arith, trop_read a e, trop_read b f, plus_read x y))

-- The offset number of a difference of two whole numbers.
pub trop_minus : (a b : ℕ) {x y : ℤ} → trop_of a ≡ fin x → trop_of b ≡ fin y → b < a + signed_half → trop_of (a + signed_half - b) ≡ fin (x -ℤ y)
trop_minus a b {x} {y} e f h = trop_show (a + signed_half - b) (x -ℤ y) (omega arith) (omega (arith, trop_read a e, trop_read b f, minus_read x y))

-- The sum of two offset numbers above 0 stands for the sum, once 2³¹ is taken away.
pub plus_trop : (a b : ℕ) → 0 < a → 0 < b → signed_half < a + b → plus (trop_of a) (trop_of b) ≡ trop_of (a + b - signed_half)
unfolding plus
plus_trop a b h k l = rw (trop_plus a b (trop_fin a h) (trop_fin b k) l, trop_fin a h, trop_fin b k)

-- A sum with 0, blank, is blank.
pub plus_trop_zero : (x : Trop) → (plus (trop_of 0) x ≡ bot) × (plus x (trop_of 0) ≡ bot)
unfolding plus
plus_trop_zero x = (rw trop_zero, rw trop_zero (plus_bot x))
