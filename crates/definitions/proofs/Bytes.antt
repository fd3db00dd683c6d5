-- Laws of fields in lists of bytes, over any width: lengths, reading back what was written, writing back what was read.
use Prim.Native.Nat.{ℕ, zero, suc, ◌+◌, ◌*◌, ◌-◌, ◌/◌, ◌%◌, ◌^◌, ◌≤◌, ◌<◌}
use mathlib.Core.Path.{◌≡◌, refl, ap, ap₂, sym, subst, ◌∙◌}
use mathlib.Core.Bool.{Bool, true, and-eq-true_iff}
use mathlib.Core.List.{List, [], ◌∷◌, ◌++◌, map, append_assoc}
use mathlib.Core.Logic.{⊎_elim, ◌↔◌}
use native.Mathlib.Omega.{arith}
use native.Mathlib.Nat.{add-zero, add_assoc, mul-zero, pow-suc}
use native.Mathlib.Numerals.{add-one}
use lib.Dec.{ltb}
use lib.ListN.{length, get_or, take, drop, replicate, length-append, length-take, length-map, get_or-append, get_or-eq_default, get_or-map}
use lib.Seq.{drop-cons, append_snoc, get_or_at, get_or-append-add, get_or-take, get_or-drop, take-add, drop-drop}
use borrow.Author.Tests.{ltb-true}
use Rattle.base.proofs.Numbers.{nat_le_or_lt}
use Rattle.definitions.specs.Bytes.{Bytes, num_at, le, nums_at, fields, put, all}

-- ---- lengths

-- A number as k bytes has k bytes.
pub length_le : (k x : ℕ) → length (le k x) ≡ k
unfolding le
length_le zero x = refl
length_le (suc k) x = ap suc (length_le k (x / 256))

-- A run of fields of k bytes has k bytes for each number.
pub length_fields : (k : ℕ) (xs : List ℕ) → length (fields k xs) ≡ k * length xs
unfolding fields
length_fields k [] = sym (mul-zero k)
length_fields k (x ∷ xs) = rw (length-append, length_le, length_fields k xs) (omega arith)

-- A run that is read has as many numbers as were asked for.
pub length_nums_at : (k count : ℕ) (s : List ℕ) (at : ℕ) → length (nums_at k count s at) ≡ count
unfolding nums_at
length_nums_at k zero s at = refl
length_nums_at k (suc count) s at = ap suc (length_nums_at k count s (at + k))

-- ---- one field

-- Two lists that agree at the places read give the same number.
pub num_at_same : (k : ℕ) (s t : List ℕ) (at to : ℕ) → ((i : ℕ) → i < k → get_or s (at + i) 0 ≡ get_or t (to + i) 0) → num_at k s at ≡ num_at k t to
unfolding num_at
num_at_same zero s t at to h = refl
num_at_same (suc k) s t at to h =
    ap₂ (λ (a b : ℕ). a + 256 * b)
    (simp add-zero at (h 0 (omega arith)))
    (num_at_same k s t (at + 1) (to + 1) (λ i l. simp add_assoc (h (1 + i) (omega arith))))

-- A field inside the first of two lists is read from the first.
pub num_at_front : (k : ℕ) (s t : List ℕ) (at : ℕ) → at + k ≤ length s → num_at k (s ++ t) at ≡ num_at k s at
num_at_front k s t at h = num_at_same k (s ++ t) s at at (λ i l. get_or-append s t 0 (at + i) (omega arith))

-- A field in the second of two lists is read from the second.
pub num_at_back : (k : ℕ) (s t : List ℕ) (n at : ℕ) → length s ≡ n → num_at k (s ++ t) (n + at) ≡ num_at k t at
num_at_back k s t n at e = num_at_same k (s ++ t) t (n + at) at (λ i l. rw (add_assoc, ← e) (get_or-append-add s t (at + i) 0))

-- A field behind the first d bytes.
pub num_at_drop : (k d : ℕ) (s : List ℕ) (at : ℕ) → num_at k (drop d s) at ≡ num_at k s (d + at)
num_at_drop k d s at = num_at_same k (drop d s) s at (d + at) (λ i l. rw add_assoc (get_or-drop d s (at + i) 0))

-- A number written as k bytes is read back, if it fits.
pub num_le : (k x : ℕ) (p q : List ℕ) (n : ℕ) → length p ≡ n → x < 256 ^ k → num_at k (p ++ (le k x ++ q)) n ≡ x
unfolding num_at le
num_le zero x p q n e h = omega arith
num_le (suc k) x p q n e h =
    let b : List ℕ = (x % 256) ∷ [] in
    let low : get_or (p ++ ((x % 256) ∷ (le k (x / 256) ++ q))) n 0 ≡ x % 256 = get_or_at p (x % 256) (le k (x / 256) ++ q) 0 n e in
    let fits : x / 256 < 256 ^ k = omega (arith, pow-suc 256 k) in
    let high : num_at k (p ++ ((x % 256) ∷ (le k (x / 256) ++ q))) (n + 1) ≡ x / 256 =
    rw append_snoc at (num_le k (x / 256) (p ++ b) q (n + 1) (rw length-append (omega arith)) fits) in
    omega arith

-- A number read from k bytes is below 256 to the k.
pub num_at_bound : (k : ℕ) {s : List ℕ} (at : ℕ) → Bytes s → num_at k s at < 256 ^ k
unfolding num_at
num_at_bound zero at b = omega arith
num_at_bound (suc k) at b = omega (arith, pow-suc 256 k, b.byte at, num_at_bound k (at + 1) b)

-- A number read from k bytes is written back as they are.
pub le_num : (k : ℕ) {s : List ℕ} (at : ℕ) → Bytes s → at + k ≤ length s → le k (num_at k s at) ≡ take k (drop at s)
unfolding num_at le
le_num zero at b h = refl
le_num (suc k) {s} at b h =
    let x : ℕ = get_or s at 0 + 256 * num_at k s (at + 1) in
    let low : x % 256 ≡ get_or s at 0 = omega (arith, b.byte at) in
    let high : x / 256 ≡ num_at k s (at + 1) = omega (arith, b.byte at) in
    rw (drop-cons s at 0 (omega arith), low, high, le_num k (at + 1) b (omega arith), add-one)

-- ---- runs

-- Every number of the list is below the bound.
pub record Below (bound : ℕ) (xs : List ℕ) : Type 0 where
  pub below : (i : ℕ) → i < length xs → get_or xs i 0 < bound

-- Two lists that agree at the places read give the same run.
pub nums_at_same : (k count : ℕ) (s t : List ℕ) (at to : ℕ) → ((i : ℕ) → i < k * count → get_or s (at + i) 0 ≡ get_or t (to + i) 0)
    → nums_at k count s at ≡ nums_at k count t to
unfolding nums_at
nums_at_same k zero s t at to h = refl
nums_at_same k (suc count) s t at to h =
    ap₂ ◌∷◌
    (num_at_same k s t at to (λ i l. h i (omega arith)))
    (nums_at_same k count s t (at + k) (to + k) (λ i l. simp add_assoc (h (k + i) (omega arith))))

-- Number i of a run stands k bytes further for each number before it.
pub get_d_nums_at : (k count : ℕ) (s : List ℕ) (at i : ℕ) → i < count → get_or (nums_at k count s at) i 0 ≡ num_at k s (at + k * i)
unfolding nums_at
get_d_nums_at k zero s at i h = absurd (omega arith)
get_d_nums_at k (suc count) s at zero h = let e : at + k * 0 ≡ at = omega arith in rw e
get_d_nums_at k (suc count) s at (suc i) h =
    let e : (at + k) + k * i ≡ at + k * suc i = omega arith in
    rw e at (get_d_nums_at k count s (at + k) i (omega arith))

-- A run that is read from bytes fits its fields.
pub nums_at_below : (k count : ℕ) {s : List ℕ} (at : ℕ) → Bytes s → Below (256 ^ k) (nums_at k count s at)
nums_at_below k count {s} at b =
    record { below = λ i h. rw (get_d_nums_at k count s at i (rw length_nums_at at h)) (num_at_bound k (at + k * i) b) }

-- Two runs of numbers written one after the other are one run.
pub fields_append : (k : ℕ) (xs ys : List ℕ) → fields k (xs ++ ys) ≡ fields k xs ++ fields k ys
unfolding fields
fields_append k [] ys = refl
fields_append k (x ∷ xs) ys = rw (fields_append k xs ys, append_assoc)

-- A run of numbers that fit is read back.
pub nums_fields : (k : ℕ) (xs p q : List ℕ) (n : ℕ) → length p ≡ n → Below (256 ^ k) xs
    → nums_at k (length xs) (p ++ (fields k xs ++ q)) n ≡ xs
unfolding fields nums_at
nums_fields k [] p q n e b = refl
nums_fields k (x ∷ xs) p q n e b =
    let rest : Below (256 ^ k) xs = record { below = λ i h. b.below (suc i) (omega arith) } in
    rw append_assoc
    (ap₂ ◌∷◌
    (num_le k x p (fields k xs ++ q) n e (b.below 0 (omega arith)))
    (rw append_assoc at (nums_fields k xs (p ++ le k x) q (n + k) (rw (length-append, length_le) (omega arith)) rest)))

-- A run that is read is written back as it stands.
pub fields_nums : (k count : ℕ) {s : List ℕ} (at : ℕ) → Bytes s → at + k * count ≤ length s → fields k (nums_at k count s at) ≡ take (k * count) (drop at s)
unfolding fields nums_at
fields_nums k zero {s} at b h = rw mul-zero
fields_nums k (suc count) {s} at b h =
    let e : k * suc count ≡ k + k * count = omega arith in
    rw (e, take-add, drop-drop, le_num k at b (omega arith), fields_nums k count (at + k) b (omega arith))

-- ---- tests of every element

-- A test passes for a list exactly when it passes at each place.
pub all_true {ℓ} : {A : Type ℓ} (test : A → Bool) (d : A) (xs : List A) → (all test xs ≡ true) ↔ ((i : ℕ) → i < length xs → test (get_or xs i d) ≡ true)
unfolding all
all_true test d [] = (λ e i h. absurd (omega arith), λ h. refl)
all_true test d (x ∷ xs) =
    let both = and-eq-true_iff (test x) (all test xs) in
    let rest = all_true test d xs in
    (λ e. every (both.0 e).0 (rest.0 (both.0 e).1), λ h. both.1 (h 0 (omega arith), rest.1 (λ i l. h (suc i) (omega arith))))
  where
    every : test x ≡ true → ((i : ℕ) → i < length xs → test (get_or xs i d) ≡ true) → (i : ℕ) → i < suc (length xs) → test (get_or (x ∷ xs) i d) ≡ true
    every e h zero l = e
    every e h (suc i) l = h i (omega arith)

-- A test passes for what a run means exactly when it passes for each of its fields.
pub all-numsAt {ℓ} : {A : Type ℓ} (test : A → Bool) (f : ℕ → A) (k count : ℕ) (s : List ℕ) (at : ℕ)
    → (all test (map f (nums_at k count s at)) ≡ true) ↔ ((i : ℕ) → i < count → test (f (num_at k s (at + k * i))) ≡ true)
all-numsAt test f k count s at = (
  λ e i l. rw (element i l) at (places.0 e i (rw (length-map, length_nums_at) l)),
  λ h. places.1 (λ i l. let r : i < count = rw (length-map, length_nums_at) at l in rw (element i r) (h i r)),
)
  where
    element : (i : ℕ) → i < count → get_or (map f (nums_at k count s at)) i (f 0) ≡ f (num_at k s (at + k * i))
    element i l = get_or-map f (nums_at k count s at) i 0 ∙ ap f (get_d_nums_at k count s at i l)

    places : (all test (map f (nums_at k count s at)) ≡ true)
        ↔ ((i : ℕ) → i < length (map f (nums_at k count s at)) → test (get_or (map f (nums_at k count s at)) i (f 0)) ≡ true)
    places = all_true test (f 0) (map f (nums_at k count s at))

-- ---- lists of bytes

-- Two strings of bytes one after the other.
pub bytes_append : {s t : List ℕ} → Bytes s → Bytes t → Bytes (s ++ t)
bytes_append {s} {t} b c = record { byte = λ i. ⊎_elim (behind i) (λ (h : i < length s). rw (get_or-append s t 0 i h) (b.byte i)) (nat_le_or_lt (length s) i) }
  where
    behind : (i : ℕ) → length s ≤ i → get_or (s ++ t) i 0 < 256
    behind i h =
        let e : length s + (i - length s) ≡ i = omega arith in
        subst (λ (j : ℕ). get_or (s ++ t) j 0 < 256) e (rw get_or-append-add (c.byte (i - length s)))

-- The first n bytes.
pub bytes_take : (n : ℕ) {s : List ℕ} → Bytes s → Bytes (take n s)
bytes_take n {s} b = record { byte = λ i. ⊎_elim (past i) (λ (h : i < n). rw (get_or-take n s i 0 h) (b.byte i)) (nat_le_or_lt n i) }
  where
    past : (i : ℕ) → n ≤ i → get_or (take n s) i 0 < 256
    past i h =
        let short : length (take n s) ≤ i = rw length-take (omega arith) in
        rw (get_or-eq_default (take n s) 0 short) (omega arith)

-- What comes after the first n bytes.
pub bytes_drop : (n : ℕ) {s : List ℕ} → Bytes s → Bytes (drop n s)
bytes_drop n {s} b = record { byte = λ i. rw get_or-drop (b.byte (n + i)) }

-- A number as k bytes.
pub bytes_le : (k x : ℕ) → Bytes (le k x)
unfolding le
bytes_le zero x = record { byte = λ i. omega arith }
bytes_le (suc k) x = bytes_append {s = (x % 256) ∷ []} (record { byte = one }) (bytes_le k (x / 256))
  where
    one : (i : ℕ) → get_or ((x % 256) ∷ []) i 0 < 256
    one zero = omega arith
    one (suc i) = omega arith

-- A run of fields.
pub bytes_fields : (k : ℕ) (xs : List ℕ) → Bytes (fields k xs)
unfolding fields
bytes_fields k [] = record { byte = λ i. omega arith }
bytes_fields k (x ∷ xs) = bytes_append (bytes_le k x) (bytes_fields k xs)

-- Bytes put into bytes.
pub bytes_put : {l : List ℕ} (at : ℕ) {vs : List ℕ} → Bytes l → Bytes vs → Bytes (put l at vs)
unfolding put
bytes_put at {vs} b c = bytes_append (bytes_take at b) (bytes_append c (bytes_drop (at + length vs) b))

-- A list whose elements are tested one by one is a string of bytes.
pub bytes_tested : (s : List ℕ) → all (λ x. ltb x 256) s ≡ true → Bytes s
bytes_tested s e = record {
  byte = λ i. ⊎_elim
      (λ (h : length s ≤ i). rw (get_or-eq_default s 0 h) (omega arith))
      (λ (h : i < length s). ltb-true (get_or s i 0) 256 ((all_true (λ x. ltb x 256) 0 s).0 e i h))
      (nat_le_or_lt (length s) i);
}

pub zero_bytes : (n : ℕ) → Bytes (replicate n 0)
zero_bytes n = record { byte = λ i. rw (zero_at n i) (omega arith) }
  where
    zero_at : (n i : ℕ) → ◌≡◌ {A = ℕ} (get_or (replicate n 0) i 0) 0
    zero_at zero i = refl
    zero_at (suc n) zero = refl
    zero_at (suc n) (suc i) = zero_at n i
