-- Laws of decimal numbers: one digit, or those of the tenth part and one more; how many digits there are.
use Prim.Native.Nat.{ℕ, zero, suc, ◌+◌, ◌^◌, ◌/◌, ◌%◌, ◌≤◌, ◌<◌}
use mathlib.Core.Path.{◌≡◌, ap, sym, ◌∙◌}
use mathlib.Core.Logic.{⊎_elim}
use mathlib.Core.List.{List, [], ◌∷◌, ◌++◌}
use native.Mathlib.Omega.{arith}
use native.Mathlib.Nat.{pow-suc}
use lib.ListN.{length, length-append}
use borrow.Author.Tests.{lt-ltb, le-ltb}
use Rattle.base.proofs.Numbers.{nat_le_or_lt}
use Rattle.definitions.specs.Programs.{digits, decimal}

digits_one : (turns k : ℕ) → k < 10 → digits (suc turns) k ≡ (48 + k) ∷ []
unfolding digits
digits_one turns k h = rw (lt-ltb k 10 h, digits)

digits_more : (turns k : ℕ) → 10 ≤ k → digits (suc turns) k ≡ digits turns (k / 10) ++ ((48 + k % 10) ∷ [])
unfolding digits
digits_more turns k h = rw (le-ltb k 10 h, digits)

-- Turns beyond the number change nothing.
digits_same : (a b k : ℕ) → k < a → k < b → digits a k ≡ digits b k
digits_same zero b k h g = absurd (omega arith)
digits_same (suc a) zero k h g = absurd (omega arith)
digits_same (suc a) (suc b) k h g = ⊎_elim
    (λ (m : 10 ≤ k). digits_more a k m
    ∙ ap (λ (l : List ℕ). l ++ ((48 + k % 10) ∷ [])) (digits_same a b (k / 10) (omega arith) (omega arith))
    ∙ sym (digits_more b k m))
    (λ (s : k < 10). digits_one a k s ∙ sym (digits_one b k s))
    (nat_le_or_lt 10 k)

-- A number below 10 is one digit.
pub decimal_one : (k : ℕ) → k < 10 → decimal k ≡ (48 + k) ∷ []
unfolding decimal
decimal_one k h = digits_one k k h

-- Another is its tenth part and its last digit.
pub decimal_more : (k : ℕ) → 10 ≤ k → decimal k ≡ decimal (k / 10) ++ ((48 + k % 10) ∷ [])
unfolding decimal
decimal_more k h =
    digits_more k k h ∙ ap (λ (l : List ℕ). l ++ ((48 + k % 10) ∷ [])) (digits_same k (suc (k / 10)) (k / 10) (omega arith) (omega arith))

-- One digit more than the tenth part.
decimal_length : (n k : ℕ) → length (decimal (k / 10)) ≤ n → 10 ≤ k → length (decimal k) ≤ suc n
decimal_length n k g m = rw decimal_more (simp length-append (omega arith))

-- A number below 10 ^ n has at most n digits, for n above 0.
pub decimal_few : (n k : ℕ) → k < 10 ^ suc n → length (decimal k) ≤ suc n
decimal_few zero k h = rw (decimal_one k h) (omega arith)
decimal_few (suc n) k h = ⊎_elim
    (λ (m : 10 ≤ k). decimal_length (suc n) k (decimal_few n (k / 10) (omega (arith, pow-suc 10 (suc n)))) m)
    (λ (s : k < 10). rw (decimal_one k s) (omega arith))
    (nat_le_or_lt 10 k)
