-- Laws of low numbers: the offset number of a low one, and arrays of low values.
use Prim.Native.Nat.{ℕ, zero, suc, ◌+◌, ◌≤◌, ◌<◌}
use mathlib.Core.Path.{◌≡◌, refl, sym, ap, subst, ◌∙◌}
use mathlib.Core.Logic.{⊎_elim}
use mathlib.Core.List.{List, [], ◌∷◌}
use native.Mathlib.Omega.{arith}
use native.Mathlib.Nat.{eq-zero-or-pos}
use lib.ListN.{length, get_or, length-map}
use lib.Seq.{ext_get_or}
use borrow.Author.Tests.{ne_eqb}
use Rattle.base.specs.Filled.{Filled}
use Rattle.policy_iteration.specs.Tables.{low_half, high, highs}

-- ---- one number

pub high_zero : high 0 ≡ 0
unfolding high
high_zero = refl

pub high_whole : (k : ℕ) → 0 < k → high k ≡ k + low_half
unfolding high
high_whole k h = rw (ne_eqb k 0 (λ e. omega arith))

pub high_mono : (a b : ℕ) → a ≤ b → high a ≤ high b
high_mono a b h = ⊎_elim
    (λ (e : a ≡ 0). let z : high a ≡ 0 = rw e high_zero in omega arith)
    (λ (p : 0 < a). omega (arith, high_whole a p, high_whole b (omega arith)))
    (eq-zero-or-pos a)

pub high_strict : (a b : ℕ) → a < b → high a < high b
high_strict a b h = ⊎_elim
    (λ (e : a ≡ 0). let z : high a ≡ 0 = rw e high_zero in omega (arith, high_whole b (omega arith)))
    (λ (p : 0 < a). omega (arith, high_whole a p, high_whole b (omega arith)))
    (eq-zero-or-pos a)

pub high_blank : (k : ℕ) → high k ≡ 0 → k ≡ 0
high_blank k e = ⊎_elim (λ z. z) (λ (p : 0 < k). absurd (omega (arith, high_whole k p))) (eq-zero-or-pos k)

-- ---- arrays

pub highs_at : (x : List ℕ) (k : ℕ) → get_or (highs x) k 0 ≡ high (get_or x k 0)
highs_at [] k = sym high_zero
highs_at (v ∷ x) zero = refl
highs_at (v ∷ x) (suc k) = highs_at x k

pub highs_size : (x : List ℕ) (n : ℕ) → length (highs x) ≡ n → length x ≡ n
highs_size x n e = sym (length-map x high) ∙ e

-- An array that a loop has filled with low numbers.
pub filled_highs : {P : ℕ → ℕ → Type 0} {size n : ℕ} {xs : List ℕ} → Filled (λ k v. P k (high v)) size n xs → Filled P size n (highs xs)
filled_highs {P} {xs = xs} f = record {
  size_is = length-map xs high ∙ f.size_is;
  each = λ k h. subst (P k) (sym (highs_at xs k)) (f.each k h);
  rest = λ k h. highs_at xs k ∙ ap high (f.rest k h) ∙ high_zero;
}

-- An array that holds the offset numbers of another.
pub is_highs : (x y : List ℕ) → length x ≡ 32 → length y ≡ 32 → ((k : ℕ) → k < 32 → get_or y k 0 ≡ high (get_or x k 0)) → y ≡ highs x
is_highs x y e l f = ext_get_or 0 y (highs x) (l ∙ sym (length-map x high ∙ e)) (λ k h. f k (omega arith) ∙ sym (highs_at x k))
