-- Laws of the ends of a row: bits that are those of two places leave no other place.
use Prim.Native.Nat.{ℕ, zero, suc, ◌+◌, ◌*◌, ◌%◌, ◌^◌, ◌≤◌, ◌<◌}
use mathlib.Core.Path.{◌≡◌, refl, sym, subst, ◌∙◌}
use mathlib.Core.Bool.{Bool, true, false, cond}
use mathlib.Core.Logic.{⊎_elim}
use mathlib.Core.List.{List}
use native.Mathlib.Omega.{arith}
use native.Mathlib.Nat.{eq-zero-or-pos, pow-suc}
use native.Mathlib.Numerals.{add-one}
use lib.Dec.{eqb}
use lib.ListN.{get_or, replicate}
use lib.Pow.{pow_pos, pow_mono, shl_exact}
use borrow.Author.Tests.{eq-eqb, ne_eqb}
use Rattle.base.proofs.Numbers.{nat_le_or_lt, same_or_not}
use Rattle.duality.specs.Height.{total}
use Rattle.policy_iteration.specs.Ends.{entry, bits_in, Holds, RowEnds, BitsEnds}
use Rattle.policy_iteration.specs.declared.ends.Ends.{Ends}
use Rattle.std.specs.Prelude.{Option, Some, None}

-- ---- numbers by their bits

abbrev binary : (ℕ → ℕ) → ℕ → ℕ
binary f n = total (λ l. f l * 2 ^ l) n

bit_most : (v p : ℕ) → v ≤ 1 → v * p ≤ p
bit_most zero p h = omega arith
bit_most (suc zero) p h = omega arith
bit_most (suc (suc v)) p h = absurd (omega arith)

binary_below : (f : ℕ → ℕ) → ((l : ℕ) → f l ≤ 1) → (n : ℕ) → binary f n < 2 ^ n
unfolding total
binary_below f b zero = pow_pos 0
binary_below f b (suc n) = omega (arith, binary_below f b n, bit_most (f n) (2 ^ n) (b n), pow-suc 2 n)

-- The highest bit of two equal numbers is the same,
same_bit : (u v a b p : ℕ) → u ≤ 1 → v ≤ 1 → a < p → b < p → a + u * p ≡ b + v * p → u ≡ v
same_bit zero zero a b p h k l m e = refl
same_bit zero (suc zero) a b p h k l m e = absurd (omega arith)
same_bit (suc zero) zero a b p h k l m e = absurd (omega arith)
same_bit (suc zero) (suc zero) a b p h k l m e = refl
same_bit zero (suc (suc v)) a b p h k l m e = absurd (omega arith)
same_bit (suc zero) (suc (suc v)) a b p h k l m e = absurd (omega arith)
same_bit (suc (suc u)) v a b p h k l m e = absurd (omega arith)

-- and so are all.
same_bits : (f g : ℕ → ℕ) → ((l : ℕ) → f l ≤ 1) → ((l : ℕ) → g l ≤ 1) → (n : ℕ) → binary f n ≡ binary g n → (l : ℕ) → l < n → f l ≡ g l
unfolding total
same_bits f g b c zero e l h = absurd (omega arith)
same_bits f g b c (suc n) e l h =
    let top : f n ≡ g n = same_bit (f n) (g n) (binary f n) (binary g n) (2 ^ n) (b n) (c n) (binary_below f b n) (binary_below g c n) e in
    let low : binary f n ≡ binary g n = rest (binary f n) (binary g n) (f n) (g n) (2 ^ n) e top in
    ⊎_elim (λ (k : n ≤ l). let q : n ≡ l = omega arith in subst (λ (i : ℕ). f i ≡ g i) q top) (λ (k : l < n). same_bits f g b c n low l k) (nat_le_or_lt n l)
  where
    rest : (a b u v p : ℕ) → a + u * p ≡ b + v * p → u ≡ v → a ≡ b
    rest a b u v p e d = let q : a + v * p ≡ b + v * p = rw d at e in omega arith

-- The bit of one place.
abbrev only : ℕ → ℕ → ℕ
only a l = cond (eqb l a) 1 0

only_most : (a l : ℕ) → only a l ≤ 1
only_most a l = go (eqb l a)
  where
    go : (t : Bool) → cond t 1 0 ≤ 1
    go true = omega arith
    go false = omega arith

only_other : (a l : ℕ) → (l ≡ a → ⊥) → only a l ≡ 0
only_other a l d = rw (ne_eqb l a d)

only_here : (a : ℕ) → only a a ≡ 1
only_here a = rw (eq-eqb a a refl)

only_none : (a n : ℕ) → n ≤ a → binary (only a) n ≡ 0
unfolding total
only_none a zero h = refl
only_none a (suc n) h = rw (only_other a n (λ e. omega arith)) (omega (arith, only_none a n (omega arith)))

only_binary : (a n : ℕ) → a < n → binary (only a) n ≡ 2 ^ a
unfolding total
only_binary a zero h = absurd (omega arith)
only_binary a (suc n) h = ⊎_elim
    (λ (k : n ≤ a). let e : n ≡ a = omega arith in rw (e, only_here a) (omega (arith, only_none a a (omega arith))))
    (λ (k : a < n). rw (only_other a n (λ e. omega arith)) (omega (arith, only_binary a n k)))
    (nat_le_or_lt n a)

binary_plus : (f g : ℕ → ℕ) (n : ℕ) → binary (λ l. f l + g l) n ≡ binary f n + binary g n
unfolding total
binary_plus f g zero = refl
binary_plus f g (suc n) = omega (arith, binary_plus f g n)

-- ---- the bits of a row

pub one_shifted : (l : ℕ) → l < 32 → (1 * 2 ^ l) % 2 ^ 32 ≡ 2 ^ l
one_shifted l h = shl_exact {a = 1} 1 l 32 (omega arith) (omega arith) ∙ (omega arith)

entry_most : (k : ℕ) → entry k ≤ 1
entry_most k = go (eqb k 0)
  where
    go : (t : Bool) → cond t 0 1 ≤ 1
    go true = omega arith
    go false = omega arith

pub entry_none : (k l : ℕ) → k ≡ 0 → 0 ≡ entry k * 2 ^ l
entry_none k l e = rw (eq-eqb k 0 e) (omega arith)

pub entry_some : (k l : ℕ) → (k ≡ 0 → ⊥) → 2 ^ l ≡ entry k * 2 ^ l
entry_some k l d = rw (ne_eqb k 0 d) (omega arith)

-- What has no bit is blank.
entry_blank : (k : ℕ) → entry k ≡ 0 → k ≡ 0
entry_blank k e = ⊎_elim (λ z. z) (λ (p : 0 < k). let q : 1 ≡ 0 = rw (ne_eqb k 0 (λ z. omega arith)) at e in absurd (omega arith)) (eq-zero-or-pos k)

pub bits_none : (table : List ℕ) (row : ℕ) → 0 ≡ bits_in table row 0
unfolding total
bits_none table row = refl

pub bits_more : (table : List ℕ) (row n bits r : ℕ) → bits ≡ bits_in table row n → r ≡ entry (get_or table (row * 32 + n) 0) * 2 ^ n
    → bits + r ≡ bits_in table row (n + 1)
unfolding total
bits_more table row n bits r e d = rw (e, d, add-one, total)

-- They have 32 bits.
pub bits_fit : (table : List ℕ) (row n bits r : ℕ) → n < 32 → bits ≡ bits_in table row n → r ≡ entry (get_or table (row * 32 + n) 0) * 2 ^ n
    → bits + r ≤ 4294967295
bits_fit table row n bits r h e d =
    let f : bits + r < 2 ^ (n + 1) = rw (bits_more table row n bits r e d) (binary_below (λ l. entry (get_or table (row * 32 + l) 0)) (λ l. entry_most (get_or table (row * 32 + l) 0)) (n + 1)) in
    let g : 2 ^ (n + 1) ≤ 2 ^ 32 = pow_mono {i = n + 1} {j = 32} (omega arith) in
    omega arith

-- ---- the ends

-- The ends of a row that was not looked at.
pub ends_none : {table : List ℕ} {row : ℕ} → RowEnds table row None
ends_none = record { known = λ two e. cc }

pub ends_nowhere : {table : List ℕ} {row : ℕ} (size k : ℕ) → RowEnds table row (get_or {A = Option Ends} (replicate size None) k None)
ends_nowhere zero k = ends_none
ends_nowhere (suc size) zero = ends_none
ends_nowhere (suc size) (suc k) = ends_nowhere size k

pub bits_wide : {bits : ℕ} → BitsEnds bits None
bits_wide = record { row = λ table row e. ends_none }

pub ends_known : {table : List ℕ} {row : ℕ} {two : Ends} → Holds table row two → RowEnds table row (Some two)
ends_known {table} {row} {two} h = record { known = λ other e. let d : two ≡ other = cc in rw (← d) h }

-- The bits of some places: the others are blank.
ends_by : (table : List ℕ) (row bits : ℕ) (g : ℕ → ℕ) → bits ≡ bits_in table row 32 → ((l : ℕ) → g l ≤ 1) → bits ≡ binary g 32
    → (l : ℕ) → l < 32 → g l ≡ 0 → get_or table (row * 32 + l) 0 ≡ 0
ends_by table row bits g e b d l h z = entry_blank _ (same_bits (λ l. entry (get_or table (row * 32 + l) 0)) g (λ l. entry_most (get_or table (row * 32 + l) 0)) b 32 (sym e ∙ d) l h ∙ z)

-- No entry at all: any ends will do.
pub ends_blank : (table : List ℕ) (row bits : ℕ) (two : Ends) → two.first < 32 → two.last < 32 → bits ≡ bits_in table row 32 → bits ≡ 0 → RowEnds table row (Some two)
ends_blank table row bits two h k c z = ends_known (record {
  first_is = h;
  last_is = k;
  others = λ l b d e. ends_by table row bits (only 32) c (only_most 32) (z ∙ sym (only_none 32 32 (omega arith))) l b (only_other 32 l (λ q. omega arith));
})

module _ (bits : ℕ) (two : Ends) (h : two.first < 32) (k : two.last < 32) where
  -- One entry.
  pub ends_one : bits ≡ 2 ^ two.first → BitsEnds bits (Some two)
  ends_one o = record {
    row = λ table row c. ends_known (record {
      first_is = h;
      last_is = k;
      others = λ l b d e. ends_by table row bits (only two.first) c (only_most two.first) (o ∙ sym (only_binary two.first 32 h)) l b (only_other two.first l d);
    });
  }

  -- Two entries.
  pub ends_two : bits ≡ 2 ^ two.first + 2 ^ two.last → (two.first ≡ two.last → ⊥) → BitsEnds bits (Some two)
  ends_two o n = record {
    row = λ table row c. ends_known (record {
      first_is = h;
      last_is = k;
      others = λ l b d e. ends_by table row bits both c both_most
          (o ∙ sym (binary_plus (only two.first) (only two.last) 32 ∙ rw (only_binary two.first 32 h, only_binary two.last 32 k))) l b
          (rw (only_other two.first l d, only_other two.last l e));
    });
  }
    where
      both : ℕ → ℕ
      both l = only two.first l + only two.last l

      both_most : (l : ℕ) → both l ≤ 1
      both_most l = ⊎_elim
          (λ (z : l ≡ two.first). omega (arith, only_most two.first l, only_other two.last l (λ q. n (sym z ∙ q))))
          (λ z. omega (arith, only_most two.last l, only_other two.first l z))
          (same_or_not l two.first)
