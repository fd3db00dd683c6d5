-- The later of two stamps, the second moved back: when it is below the least stamp, and its offset number.
use Prim.Native.Nat.{ℕ, ◌+◌, ◌-◌, ◌%◌, max, ◌≤◌, ◌<◌}
use mathlib.Core.Path.{◌≡◌, refl, ap, sym, subst, ◌∙◌}
use mathlib.Core.Bool.{Bool, true, false, not, cond}
use mathlib.Core.Logic.{◌⊎◌, ⊎_elim}
use native.Mathlib.Omega.{arith}
use lib.Dec.{ltb, T}
use lib.IntN.{ℤ, pos, neg_ℤ, sub_ℕ, ◌+ℤ◌}
use lib.Signed.{◌≤ℤ◌, ◌<ℤ◌, le_z, lt_z}
use mir.Syntax.{w64}
use mir.Val.{to_z}
use borrow.Author.Tests.{lt-ltb, le-ltb, le-leb, lt-leb}
use Rattle.base.proofs.Numbers.{nat_le_or_lt, same_or_not}
use Rattle.definitions.specs.Limits.{stamp_limit, signed_half, signed_full, word_half, word_values}
use Rattle.definitions.specs.Tropical.{Trop, bot, fin, plus, larger, ◌⊑◌, whole_least}
use Rattle.definitions.specs.Offset.{trop_of}
use Rattle.definitions.specs.Merging.{shift_of, above_zero, early}
use Rattle.definitions.proofs.Whole.{whole, le_or_lt, plus_read, neg_read, subℕ_read}
use Rattle.definitions.proofs.Tropical.{⊑_refl, ⊑_trans, ⊑_of_eq, ⊑_antisym, finite_above, fin_below, plus_fin, bot_plus, larger_left, larger_least}
use Rattle.definitions.proofs.Offset.{trop_zero, trop_fin, trop_read, trop_show, trop_larger}
use Rattle.records.specs.Decoded.{Near}
use Rattle.merging.specs.Plans.{back_by, later_of}

-- ---- tests on whole numbers

pub true_false : true ≡ false → ⊥
true_false d = let q : ◌≡◌ {A = ℕ} 0 1 = ap (λ (t : Bool). cond t 0 1) d in omega arith

le_z_true : {a b : ℤ} → a ≤ℤ b → le_z a b ≡ true
le_z_true {a} {b} h = go (le_z a b) h.le
  where
    go : (t : Bool) → T t → t ≡ true
    go true u = refl
    go false u = absurd u

le_z_false : {a b : ℤ} → b <ℤ a → le_z a b ≡ false
le_z_false {a} {b} h = go (le_z a b) refl
  where
    go : (t : Bool) → le_z a b ≡ t → t ≡ false
    go true e = let k : a ≤ℤ b = record { le = subst T (sym e) tt } in absurd (omega whole)
    go false e = refl

lt_z_true : {a b : ℤ} → a <ℤ b → lt_z a b ≡ true
lt_z_true {a} {b} h = go (lt_z a b) h.lt
  where
    go : (t : Bool) → T t → t ≡ true
    go true u = refl
    go false u = absurd u

lt_z_false : {a b : ℤ} → b ≤ℤ a → lt_z a b ≡ false
lt_z_false {a} {b} h = go (lt_z a b) refl
  where
    go : (t : Bool) → lt_z a b ≡ t → t ≡ false
    go true e = let k : a <ℤ b = record { lt = subst T (sym e) tt } in absurd (omega whole)
    go false e = refl

-- ---- shifts

-- The shift is the signed number with the same bits.
signed_is : (w : ℕ) → w < word_values → to_z w64 w ≡ shift_of w
unfolding shift_of
signed_is w h = ⊎_elim
    (λ (k : word_half ≤ w). rw (le-ltb w word_half k, lt-ltb w word_values h) refl)
    (λ (k : w < word_half). rw (lt-ltb w word_half k) refl)
    (nat_le_or_lt word_half w)

above_is : (t : ℤ) → lt_z (pos 0) t ≡ above_zero t
unfolding above_zero
above_is t = ⊎_elim
    (λ (h : t ≤ℤ pos 0). rw (le_z_true h) (lt_z_false h))
    (λ (h : pos 0 <ℤ t). rw (le_z_false h) (lt_z_true h))
    (le_or_lt t (pos 0))

pub forward_is : (w : ℕ) → w < word_values → lt_z (pos 0) (to_z w64 w) ≡ above_zero (shift_of w)
forward_is w h = rw (signed_is w h) (above_is (shift_of w))

forward_above : (w : ℕ) → (w ≡ 0 → ⊥) → w < word_half → true ≡ above_zero (shift_of w)
unfolding above_zero shift_of
forward_above w z h =
    let a : pos 0 <ℤ pos w = omega whole in
    rw (lt-ltb w word_half h, le_z_false a)

-- What is not above 0 is 0 or stands from 2⁶³ on.
back_half : (w : ℕ) → above_zero (shift_of w) ≡ false → (w ≡ 0 → ⊥) → word_half ≤ w
back_half w e z = ⊎_elim
    (λ (h : word_half ≤ w). h)
    (λ (h : w < word_half). let d : true ≡ false = forward_above w z h ∙ e in absurd (true_false d))
    (nat_le_or_lt word_half w)

back_zero : back_by 0 ≡ shift_of 0
unfolding shift_of
back_zero = refl

back_shift : (w : ℕ) → word_half ≤ w → w < word_values → back_by (word_values - w) ≡ shift_of w
unfolding shift_of
back_shift w h k = rw (le-ltb w word_half h) (let e : neg_ℤ (pos (word_values - w)) ≡ sub_ℕ w word_values = omega (whole, neg_read (pos (word_values - w)), subℕ_read w word_values) in e)

-- What makes a multiple of 2⁶⁴ with it is how far it moves back.
pub back_rest : (w b : ℕ) → above_zero (shift_of w) ≡ false → w < word_values → b < word_values → (b + w) % word_values ≡ 0 → (back_by b ≡ shift_of w) × (b ≤ word_half)
back_rest w b e h k r = ⊎_elim
    (λ (z : w ≡ 0). let none : b ≡ 0 = omega arith in (rw (none, z) back_zero, omega arith))
    (λ (z : w ≡ 0 → ⊥).
    let half = back_half w e z in
    let rest : b ≡ word_values - w = omega arith in
    (rw rest (back_shift w half h), omega arith))
    (same_or_not w 0)

-- A shift that is not above 0 is at most 0.
pub shift_most : (t : ℤ) → above_zero t ≡ false → t ≤ℤ pos 0
unfolding above_zero
shift_most t e = ⊎_elim
    (λ (h : t ≤ℤ pos 0). h)
    (λ (h : pos 0 <ℤ t). let d : true ≡ false = sym (ap not (le_z_false h)) ∙ e in absurd (true_false d))
    (le_or_lt t (pos 0))

-- ---- too early

pub early_whole : {z : ℤ} → z <ℤ neg_ℤ (pos stamp_limit) → early (fin z) ≡ true
unfolding early
early_whole h = rw (le_z_false h)

pub late_whole : {z : ℤ} → neg_ℤ (pos stamp_limit) ≤ℤ z → early (fin z) ≡ false
unfolding early
late_whole h = rw (le_z_true h)

-- What is not early is blank or at least the least stamp.
pub late_least : {z : ℤ} → early (fin z) ≡ false → neg_ℤ (pos stamp_limit) ≤ℤ z
late_least {z} e = ⊎_elim
    (λ (h : neg_ℤ (pos stamp_limit) ≤ℤ z). h)
    (λ (h : z <ℤ neg_ℤ (pos stamp_limit)). let d : true ≡ false = sym (early_whole h) ∙ e in absurd (true_false d))
    (le_or_lt (neg_ℤ (pos stamp_limit)) z)

-- ---- the later of two

-- A near number that is not blank is at least the least stamp.
near_least : (k : ℕ) {z : ℤ} → Near stamp_limit k → trop_of k ≡ fin z → neg_ℤ (pos stamp_limit) ≤ℤ z
near_least k {z} h e = let r = trop_read k e in omega (whole, neg_read (pos stamp_limit), h.lo r.0, r.1)

-- A second stamp moved back.
moved_is : (back k : ℕ) → 0 < k → plus (trop_of k) (fin (back_by back)) ≡ fin (sub_ℕ k signed_half +ℤ back_by back)
moved_is back k h = rw (trop_fin k h) (plus_fin (sub_ℕ k signed_half) (back_by back))

larger_blank : (x : Trop) → larger x bot ≡ x
unfolding larger
larger_blank bot = refl
larger_blank (fin a) = refl

blank_larger : (x : Trop) → larger bot x ≡ x
unfolding larger
blank_larger x = refl

-- It is early only where the first is blank and the second is not.
early_first : (back k l : ℕ) → Near stamp_limit k → (k ≡ 0 → ⊥) → false ≡ early (later_of back k l)
early_first back k l h z =
    let e : trop_of k ≡ fin (sub_ℕ k signed_half) = trop_fin k (omega arith) in
    let o : fin (sub_ℕ k signed_half) ⊑ later_of back k l = ⊑_trans (⊑_of_eq (sym e)) (larger_left (trop_of k) (plus (trop_of l) (fin (back_by back)))) in
    let f = finite_above o in
    let le : sub_ℕ k signed_half ≤ℤ f.whole = fin_below (⊑_trans o (⊑_of_eq f.is)) in
    let least : neg_ℤ (pos stamp_limit) ≤ℤ sub_ℕ k signed_half = near_least k h e in
    let late : neg_ℤ (pos stamp_limit) ≤ℤ f.whole = omega (whole, least, le) in
    sym (ap early f.is ∙ late_whole late)

early_neither : (back : ℕ) → false ≡ early (later_of back 0 0)
unfolding early
early_neither back = rw (trop_zero, bot_plus (fin (back_by back)), blank_larger bot) refl

pub early_second : (back l : ℕ) → (l ≡ 0 → ⊥) → ltb l (back + (signed_half - stamp_limit)) ≡ early (later_of back 0 l)
early_second back l z =
    let whole_is : later_of back 0 l ≡ fin (sub_ℕ l signed_half +ℤ back_by back) = rw (trop_zero, moved_is back l (omega arith)) (blank_larger _) in
    ⊎_elim
    (λ (h : back + (signed_half - stamp_limit) ≤ l).
    let r : neg_ℤ (pos stamp_limit) ≤ℤ (sub_ℕ l signed_half +ℤ back_by back) = omega (whole, neg_read (pos stamp_limit), neg_read (pos back), subℕ_read l signed_half, plus_read (sub_ℕ l signed_half) (back_by back)) in
    rw (le-ltb l (back + (signed_half - stamp_limit)) h) (sym (ap early whole_is ∙ late_whole r)))
    (λ (h : l < back + (signed_half - stamp_limit)).
    let r : (sub_ℕ l signed_half +ℤ back_by back) <ℤ neg_ℤ (pos stamp_limit) = omega (whole, neg_read (pos stamp_limit), neg_read (pos back), subℕ_read l signed_half, plus_read (sub_ℕ l signed_half) (back_by back)) in
    rw (lt-ltb l (back + (signed_half - stamp_limit)) h) (sym (ap early whole_is ∙ early_whole r)))
    (nat_le_or_lt (back + (signed_half - stamp_limit)) l)

pub early_is : (back k l : ℕ) → Near stamp_limit k → k ≡ 0 → (l ≡ 0 → ⊥) → ltb l (back + (signed_half - stamp_limit)) ≡ early (later_of back k l)
early_is back k l near e z = rw e (early_second back l z)

pub early_not : (back k l : ℕ) → Near stamp_limit k → ((k ≡ 0) × (l ≡ 0)) ⊎ (k ≡ 0 → ⊥) → false ≡ early (later_of back k l)
early_not back k l near h = ⊎_elim (λ (z : (k ≡ 0) × (l ≡ 0)). rw (z.0, z.1) (early_neither back)) (λ (z : k ≡ 0 → ⊥). early_first back k l near z) h

-- A second stamp of no more minutes than it is moved back is the earlier, or blank.
later_first : (back k l : ℕ) → Near stamp_limit k → early (later_of back k l) ≡ false → l ≤ back → trop_of k ≡ later_of back k l
later_first back k l near e h = ⊎_elim
    (λ (z : l ≡ 0). rw (z, trop_zero, bot_plus (fin (back_by back))) (sym (larger_blank (trop_of k))))
    (λ (z : l ≡ 0 → ⊥). ⊎_elim
    (λ (y : k ≡ 0). absurd (true_false (sym (lt-ltb l (back + (signed_half - stamp_limit)) (omega arith)) ∙ early_second back l z ∙ (rw y at e))))
    (λ (y : k ≡ 0 → ⊥).
    let first_is : trop_of k ≡ fin (sub_ℕ k signed_half) = trop_fin k (omega arith) in
    let least : neg_ℤ (pos stamp_limit) ≤ℤ sub_ℕ k signed_half = near_least k near first_is in
    let r : (sub_ℕ l signed_half +ℤ back_by back) ≤ℤ sub_ℕ k signed_half = omega (whole, least, neg_read (pos stamp_limit), neg_read (pos back), subℕ_read l signed_half, plus_read (sub_ℕ l signed_half) (back_by back)) in
    rw (moved_is back l (omega arith), first_is)
    (⊑_antisym (larger_left (fin (sub_ℕ k signed_half)) (fin (sub_ℕ l signed_half +ℤ back_by back))) (larger_least (⊑_refl (fin (sub_ℕ k signed_half))) (whole_least r))))
    (same_or_not k 0))
    (same_or_not l 0)

-- Any other has an offset number.
moved_number : (back l : ℕ) → back < l → plus (trop_of l) (fin (back_by back)) ≡ trop_of (l - back)
moved_number back l h = moved_is back l (omega arith) ∙ sym (trop_show (l - back) (sub_ℕ l signed_half +ℤ back_by back) (omega arith)
    (omega (arith, neg_read (pos back), subℕ_read l signed_half, plus_read (sub_ℕ l signed_half) (back_by back))))

later_moved : (back k l : ℕ) → back < l → k ≤ l - back → trop_of (l - back) ≡ later_of back k l
later_moved back k l h le = rw (moved_number back l h, trop_larger k (l - back), le-leb k (l - back) le) refl

later_kept : (back k l : ℕ) → back < l → l - back < k → trop_of k ≡ later_of back k l
later_kept back k l h lt = rw (moved_number back l h, trop_larger k (l - back), lt-leb k (l - back) lt) refl

-- So a number that is the later of the first and what is left of the second is the later of the two.
pub later_is : (back k l : ℕ) {v : ℕ} → Near stamp_limit k → Near stamp_limit l → early (later_of back k l) ≡ false → v ≡ max k (l - back) → (trop_of v ≡ later_of back k l) × (v < signed_full)
later_is back k l near near₂ e is = rw is (
  ⊎_elim
      (λ (h : l ≤ back). let q : max k (l - back) ≡ k = omega arith in rw q (later_first back k l near e h))
      (λ (h : back < l). ⊎_elim
      (λ (g : k ≤ l - back). let q : max k (l - back) ≡ l - back = omega arith in rw q (later_moved back k l h g))
      (λ (g : l - back < k). let q : max k (l - back) ≡ k = omega arith in rw q (later_kept back k l h g))
      (nat_le_or_lt k (l - back)))
      (nat_le_or_lt l back),
  omega (arith, near.hi, near₂.hi),
)
