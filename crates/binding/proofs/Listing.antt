-- Listings: the numbers from 1 to k that have a property, ascending. What is listed has it, what has it is listed, and there is one such
-- list.
use Prim.Native.Nat.{ℕ, suc, ◌≤◌, ◌<◌}
use mathlib.Core.Path.{◌≡◌, refl, ap, subst, ◌∙◌}
use mathlib.Core.Logic.{⊎_elim}
use mathlib.Core.List.{List, [], ◌∷◌, ◌++◌}
use native.Mathlib.Omega.{arith}
use lib.ListN.{length, get_or, length-append, get_or-append}
use lib.Seq.{get_or_at}
use Rattle.base.proofs.Numbers.{nat_le_or_lt}
use Rattle.definitions.specs.Reasons.{Listed, no_number, with_it, without}

-- A number that is listed has the property and is one of 1 to k.
pub record Stands (Has : ℕ → Type 0) (k v : ℕ) : Type 0 where
  pub some : 0 < v
  pub most : v ≤ k
  pub has : Has v

-- Where a number stands in a list.
pub record Found (numbers : List ℕ) (v : ℕ) : Type 0 where
  pub place : ℕ
  pub inside : place < length numbers
  pub is : get_or numbers place 0 ≡ v

module _ {Has : ℕ → Type 0} where
  pub listed_stands : {k : ℕ} {numbers : List ℕ} → Listed Has k numbers → (i : ℕ) → i < length numbers → Stands Has k (get_or numbers i 0)
  listed_stands no_number i h = absurd (omega arith)
  listed_stands (without l d) i h = let s = listed_stands l i h in record { some = s.some; most = omega (arith, s.most); has = s.has }
  listed_stands (with_it {k} {numbers} l a) i h = ⊎_elim
      (λ (b : length numbers ≤ i).
      let e : length numbers ≡ i = omega (arith, length-append numbers (suc k ∷ [])) in
      rw (get_or_at numbers (suc k) [] 0 i e) (record { some = omega arith; most = omega arith; has = a }))
      (λ (b : i < length numbers).
      let s = listed_stands l i b in
      rw (get_or-append numbers (suc k ∷ []) 0 i b) (record { some = s.some; most = omega (arith, s.most); has = s.has }))
      (nat_le_or_lt (length numbers) i)

  -- A number of 1 to k that has the property is listed.
  pub listed_found : {k : ℕ} {numbers : List ℕ} → Listed Has k numbers → (v : ℕ) → 0 < v → v ≤ k → Has v → Found numbers v
  listed_found no_number v s h a = absurd (omega arith)
  listed_found (with_it {k} {numbers} l b) v s h a = ⊎_elim
      (λ (q : suc k ≤ v).
      let e : suc k ≡ v = omega arith in
      record {
        place = length numbers;
        inside = omega (arith, length-append numbers (suc k ∷ []));
        is = get_or_at numbers (suc k) [] 0 (length numbers) refl ∙ e;
      })
      (λ (q : v < suc k).
      let f = listed_found l v s (omega arith) a in
      record {
        place = f.place;
        inside = omega (arith, f.inside, length-append numbers (suc k ∷ []));
        is = get_or-append numbers (suc k ∷ []) 0 f.place f.inside ∙ f.is;
      })
      (nat_le_or_lt (suc k) v)
  listed_found (without {k} l d) v s h a = ⊎_elim
      (λ (q : suc k ≤ v). let e : v ≡ suc k = omega arith in absurd (d (subst Has e a)))
      (λ (q : v < suc k). listed_found l v s (omega arith) a)
      (nat_le_or_lt (suc k) v)

  -- There is one such list.
  pub listed_unique : {k : ℕ} {one two : List ℕ} → Listed Has k one → Listed Has k two → one ≡ two
  listed_unique no_number no_number = refl
  listed_unique (with_it {k} l a) (with_it r b) = ap (λ (t : List ℕ). t ++ (suc k ∷ [])) (listed_unique l r)
  listed_unique (with_it l a) (without r d) = absurd (d a)
  listed_unique (without l d) (with_it r a) = absurd (d a)
  listed_unique (without l d) (without r e) = listed_unique l r
