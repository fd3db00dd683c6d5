-- Reading decimal numbers: the digits of a number say that number again, all are digits, and only 0 begins with 0.
use Prim.Native.Nat.{ℕ, zero, suc, ◌+◌, ◌*◌, ◌-◌, ◌^◌, ◌/◌, ◌%◌, ◌≤◌, ◌<◌}
use mathlib.Core.Path.{◌≡◌, refl, ap, sym, ◌∙◌}
use mathlib.Core.Logic.{⊎_elim}
use mathlib.Core.List.{List, [], ◌∷◌, ◌++◌}
use native.Mathlib.Omega.{arith}
use native.Mathlib.Nat.{pow-suc}
use lib.ListN.{length, get_or, length-append, get_or-append}
use lib.Seq.{get_or-append-add}
use Rattle.base.proofs.Numbers.{nat_le_or_lt}
use Rattle.definitions.specs.Programs.{decimal}
use Rattle.definitions.proofs.Programs.{decimal_one, decimal_more}

-- What holds of one digit, and of a number where it holds of the tenth part, holds of every number.
module _ (P : ℕ → Type 0) (one : (k : ℕ) → k < 10 → P k) (more : (k : ℕ) → 10 ≤ k → P (k / 10) → P k) where
  -- Below every n.
  below : (n k : ℕ) → k < n → P k
  below zero k h = absurd (omega arith)
  below (suc n) k h = ⊎_elim (λ (m : 10 ≤ k). more k m (below n (k / 10) (omega arith))) (λ (s : k < 10). one k s) (nat_le_or_lt 10 k)

  -- So of every number.
  by_digits : (k : ℕ) → P k
  by_digits k = below (suc k) k (omega arith)

-- ---- the number that digits say

-- The number that digits say behind those that said k.
unfoldable said : ℕ → List ℕ → ℕ
said k [] = k
said k (d ∷ ds) = said (10 * k + (d - 48)) ds

-- The last digit counts once, those before it ten times.
said_last : (k : ℕ) (ds : List ℕ) (d : ℕ) → said k (ds ++ (d ∷ [])) ≡ 10 * said k ds + (d - 48)
unfolding said
said_last k [] d = refl
said_last k (e ∷ ds) d = said_last (10 * k + (e - 48)) ds d

-- The digits of a number say it.
said_decimal : (k : ℕ) → said 0 (decimal k) ≡ k
unfolding said
said_decimal = by_digits (λ k. said 0 (decimal k) ≡ k)
    (λ k h. rw (decimal_one k h) (omega arith))
    (λ k h e. rw (decimal_more k h, said_last 0 (decimal (k / 10)) (48 + k % 10), e) (omega arith))

-- Two numbers with the same digits are the same.
pub decimal_injective : (a b : ℕ) → decimal a ≡ decimal b → a ≡ b
decimal_injective a b e = sym (said_decimal a) ∙ ap (said 0) e ∙ said_decimal b

-- One digit more behind those of a number above 0.
pub decimal_next : (k d : ℕ) → 0 < k → d < 10 → decimal (10 * k + d) ≡ decimal k ++ ((48 + d) ∷ [])
decimal_next k d h g =
    let tenth : (10 * k + d) / 10 ≡ k = omega arith in
    let last : (10 * k + d) % 10 ≡ d = omega arith in
    rw (decimal_more (10 * k + d) (omega arith), tenth, last)

-- ---- what the digits are

-- There is a digit.
pub decimal_some : (k : ℕ) → 0 < length (decimal k)
decimal_some = by_digits (λ k. 0 < length (decimal k))
    (λ k h. rw (decimal_one k h) (omega arith))
    (λ k h g. rw (decimal_more k h, length-append) (omega arith))

-- The number is below 10 to the power of its digits.
pub decimal_below : (k : ℕ) → k < 10 ^ length (decimal k)
decimal_below = by_digits (λ k. k < 10 ^ length (decimal k))
    (λ k h. rw (decimal_one k h) (omega arith))
    (λ k h g. rw (decimal_more k h, length-append) (next k (length (decimal (k / 10))) g))
  where
    next : (k n : ℕ) → k / 10 < 10 ^ n → k < 10 ^ (n + 1)
    next k n g = let e : n + 1 ≡ suc n = omega arith in rw (e, pow-suc 10 n) (omega arith)

-- Every element is a digit.
pub record Digits (s : List ℕ) : Type 0 where
  pub digit : (i : ℕ) → i < length s → (48 ≤ get_or s i 0) × (get_or s i 0 < 58)

-- One digit.
one_digit : (d : ℕ) → d < 10 → Digits ((48 + d) ∷ [])
one_digit d h = record { digit = only }
  where
    only : (i : ℕ) → i < 1 → (48 ≤ get_or ((48 + d) ∷ []) i 0) × (get_or ((48 + d) ∷ []) i 0 < 58)
    only zero g = (omega arith, omega arith)
    only (suc i) g = absurd (omega arith)

-- One digit more.
digit_more : (s : List ℕ) (d : ℕ) → Digits s → d < 10 → Digits (s ++ ((48 + d) ∷ []))
digit_more s d a h = record {
  digit = λ i g. ⊎_elim
      (λ (l : length s ≤ i).
      let e : i ≡ length s + 0 = omega (arith, length-append s ((48 + d) ∷ [])) in
      rw (e, get_or-append-add s ((48 + d) ∷ []) 0 0) (omega arith, omega arith))
      (λ (l : i < length s). rw (get_or-append s ((48 + d) ∷ []) 0 i l) (a.digit i l))
      (nat_le_or_lt (length s) i);
}

-- So are those of a number.
pub decimal_digits : (k : ℕ) → Digits (decimal k)
decimal_digits = by_digits (λ k. Digits (decimal k))
    (λ k h. rw (decimal_one k h) (one_digit k h))
    (λ k h a. rw (decimal_more k h) (digit_more (decimal (k / 10)) (k % 10) a (omega arith)))

-- The first digit of a number above 0 is not 0.
pub decimal_first : (k : ℕ) → 0 < k → 48 < get_or (decimal k) 0 0
decimal_first = by_digits (λ k. 0 < k → 48 < get_or (decimal k) 0 0)
    (λ k h p. rw (decimal_one k h) (omega arith))
    (λ k h g p. rw (decimal_more k h, get_or-append (decimal (k / 10)) ((48 + k % 10) ∷ []) 0 0 (decimal_some (k / 10))) (g (omega arith)))

-- A number whose first digit is 0 has no other digit.
pub decimal_zero : (k : ℕ) → get_or (decimal k) 0 0 ≡ 48 → length (decimal k) ≡ 1
decimal_zero k e = ⊎_elim
    (λ (p : 1 ≤ k). absurd (omega (arith, decimal_first k p)))
    (λ (z : k < 1). rw (decimal_one k (omega arith)))
    (nat_le_or_lt 1 k)
