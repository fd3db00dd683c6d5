-- Reading the parts of a text: digits one by one, and the minutes behind the colon.
use Prim.Native.Nat.{ℕ, suc, ◌+◌, ◌*◌, ◌-◌, ◌^◌, ◌/◌, ◌%◌, ◌≤◌, ◌<◌}
use mathlib.Core.Path.{◌≡◌, refl, ap, sym, ◌∙◌}
use mathlib.Core.Logic.{⊎_elim}
use mathlib.Core.List.{List, []}
use native.Mathlib.Omega.{arith}
use native.Mathlib.Nat.{eq-zero-or-pos, pow-le-pow_right}
use lib.ListN.{length, get_or, take}
use lib.Seq.{take-suc, take_all, length-take-le}
use Rattle.definitions.specs.Programs.{decimal}
use Rattle.definitions.specs.Hours.{colon}
use Rattle.definitions.proofs.Programs.{decimal_one}
use Rattle.definitions.proofs.Decimals.{decimal_next, decimal_some, decimal_below, decimal_digits, decimal_zero}
use Rattle.hour_texts.specs.Outcome.{IsDigit, IsMinutes}

-- ---- digits

-- The first i digits were read, and say `number`, which is above 0 where more follow.
pub record Begun (s : List ℕ) (i number : ℕ) : Type 0 where
  pub inside : i ≤ length s
  pub none_yet : i ≡ 0 → number ≡ 0
  pub positive : 0 < i → i < length s → 0 < number
  pub digits_are : 0 < i → take i s ≡ decimal number

-- No digit yet.
pub begun_none : (s : List ℕ) → Begun s 0 0
begun_none s = record { inside = omega arith; none_yet = λ e. refl; positive = λ h l. absurd (omega arith); digits_are = λ h. absurd (omega arith) }

-- One digit more; the first is 0 only where it stands alone.
pub begun_more : {s : List ℕ} {i number d : ℕ} → Begun s i number → IsDigit (get_or s i 0) d → i < length s → (get_or s 0 0 ≡ 48 → length s ≡ 1) → Begun s (i + 1) (10 * number + d)
begun_more {s} {i} {number} {d} b h l n = record {
  inside = omega arith;
  none_yet = λ e. absurd (omega arith);
  positive = λ p more. ⊎_elim (λ e. above e more) (λ (q : 0 < i). omega (arith, b.positive q l)) (eq-zero-or-pos i);
  digits_are = λ p. ⊎_elim first next (eq-zero-or-pos i);
}
  where
    one : i + 1 ≡ suc i
    one = omega arith

    above : i ≡ 0 → i + 1 < length s → 0 < 10 * number + d
    above e more =
        let z : d ≡ 0 → ⊥ = λ f. let alone = n (rw e at (h.byte_is ∙ ap (λ (k : ℕ). 48 + k) f)) in omega arith in
        ⊎_elim (λ (f : d ≡ 0). absurd (z f)) (λ (f : 0 < d). omega arith) (eq-zero-or-pos d)

    first : i ≡ 0 → take (i + 1) s ≡ decimal (10 * number + d)
    first e =
        let alone : 10 * number + d ≡ d = omega (arith, b.none_yet e) in
        let front : take i s ≡ [] = rw e refl in
        rw (one, take-suc s i 0 l, front, h.byte_is, alone) (sym (decimal_one d h.small))

    next : 0 < i → take (i + 1) s ≡ decimal (10 * number + d)
    next p = rw (one, take-suc s i 0 l, b.digits_are p, h.byte_is) (sym (decimal_next number d (b.positive p l) h.small))

-- All digits.
pub begun_all : {s : List ℕ} {i number : ℕ} → Begun s i number → length s ≤ i → 0 < length s → s ≡ decimal number
begun_all {s} {i} b h p = sym (take_all i s h) ∙ b.digits_are (omega arith)

-- At most 7 digits say a number below 10⁷.
pub decimal_small : (k : ℕ) → length (decimal k) ≤ 7 → k < 10000000
decimal_small k h =
    let most : 10 ^ length (decimal k) ≤ 10 ^ 7 = pow-le-pow_right (omega arith) h in
    omega (arith, decimal_below k)

-- So does what was read of at most 7.
pub begun_small : {s : List ℕ} {i number : ℕ} → Begun s i number → length s ≤ 7 → number < 10000000
begun_small {s} {i} {number} b h = ⊎_elim
    (λ (e : i ≡ 0). omega (arith, b.none_yet e))
    (λ (p : 0 < i). decimal_small number (rw (← b.digits_are p) (omega (arith, length-take-le i s b.inside, b.inside))))
    (eq-zero-or-pos i)

-- ---- no number

-- Nothing at all.
pub empty_none : (s : List ℕ) → length s ≡ 0 → (k : ℕ) → s ≡ decimal k → ⊥
empty_none s e k f = omega (arith, decimal_some k, ap length f)

-- A leading zero.
pub zero_none : (s : List ℕ) → get_or s 0 0 ≡ 48 → 2 ≤ length s → (k : ℕ) → s ≡ decimal k → ⊥
zero_none s e n k f = omega (arith, ap length f ∙ decimal_zero k (rw f at e))

-- A byte that is no digit.
pub digit_none : {s : List ℕ} {i : ℕ} → ((d : ℕ) → IsDigit (get_or s i 0) d → ⊥) → i < length s → (k : ℕ) → s ≡ decimal k → ⊥
digit_none {s} {i} n l k f =
    let d = (decimal_digits k).digit i (omega (arith, ap length f)) in
    let e : get_or s i 0 ≡ get_or (decimal k) i 0 = ap (λ (t : List ℕ). get_or t i 0) f in
    n (get_or s i 0 - 48) (record { small = omega arith; byte_is = omega arith })

-- ---- the minutes behind the colon

-- What a part of minutes has at its three places.
record Places (s : List ℕ) (k : ℕ) : Type 0 where
  size : length s ≡ 3
  mark : get_or s 0 0 ≡ colon
  tens : IsDigit (get_or s 1 0) (k / 10)
  ones : IsDigit (get_or s 2 0) (k % 10)

-- They are so.
places : {s : List ℕ} {k : ℕ} → IsMinutes s k → Places s k
places {s} {k} m =
    let below : k < 60 = m.below_hour in
    record {
      size = ap length m.part_is;
      mark = ap (λ (t : List ℕ). get_or t 0 0) m.part_is;
      tens = record { small = omega arith; byte_is = ap (λ (t : List ℕ). get_or t 1 0) m.part_is };
      ones = record { small = omega arith; byte_is = ap (λ (t : List ℕ). get_or t 2 0) m.part_is };
    }

-- What has no digit there is no part of minutes.
pub tens_none : (s : List ℕ) → ((d : ℕ) → IsDigit (get_or s 1 0) d → ⊥) → (k : ℕ) → IsMinutes s k → ⊥
tens_none s n k m = n _ (places m).tens

pub ones_none : (s : List ℕ) → ((d : ℕ) → IsDigit (get_or s 2 0) d → ⊥) → (k : ℕ) → IsMinutes s k → ⊥
ones_none s n k m = n _ (places m).ones

-- ---- hours and minutes

-- At most 7 digits are few hours.
pub hours_few : {h : ℕ} (s : List ℕ) → s ≡ decimal h → length s ≤ 7 → h < 10000000
hours_few {h} s e l = decimal_small h (omega (arith, ap length e))
