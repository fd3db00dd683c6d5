-- Mark bytes compared, document 02, 2.3: words and their bytes, the laws of a test that goes from byte to byte or from word to word,
-- and facts that pin what it says.
use Prim.Native.Nat.{ℕ, zero, suc, ◌+◌, ◌-◌, ◌*◌, ◌^◌, ◌≤◌, ◌<◌}
use mathlib.Core.Path.{◌≡◌, refl, ap, sym, subst, ◌∙◌}
use mathlib.Core.Bool.{Bool, true, false, false≢true}
use mathlib.Core.List.{List, ◌∷◌, ◌++◌}
use mathlib.Core.Logic.{◌⊎◌, inl, inr, ⊎_elim, ◌↔◌}
use native.Mathlib.Omega.{arith}
use native.Mathlib.Nat.{zero-add, add-zero, pow-suc}
use native.Mathlib.Numerals.{add-one}
use lib.ListN.{length, get_or, get_or-append}
use lib.Seq.{ext_get_or, get_or_at}
use Rattle.definitions.specs.Bytes.{Bytes, num_at}
use Rattle.definitions.specs.Marks.{DifferBelow, MarksCompared}
use Rattle.base.proofs.Numbers.{nat_le_or_lt, same_or_not}
use Rattle.definitions.proofs.Bytes.{num_at_same}

-- ---- words

bytes_equal : (k : ℕ) (xs ys : List ℕ) (at to : ℕ) → Bytes xs → Bytes ys → num_at k xs at ≡ num_at k ys to
    → (i : ℕ) → i < k → get_or xs (at + i) 0 ≡ get_or ys (to + i) 0
unfolding num_at
bytes_equal zero xs ys at to b c e i h = absurd (omega arith)
bytes_equal (suc k) xs ys at to b c e zero h =
    let first : get_or xs at 0 ≡ get_or ys to 0 = omega (arith, b.byte at, c.byte to) in
    rw (add-zero at, add-zero to) first
bytes_equal (suc k) xs ys at to b c e (suc i) h =
    let rest : num_at k xs (at + 1) ≡ num_at k ys (to + 1) = omega (arith, b.byte at, c.byte to) in
    let e : (at + 1) + i ≡ at + suc i = omega arith in
    let f : (to + 1) + i ≡ to + suc i = omega arith in
    rw (e, f) at (bytes_equal k xs ys (at + 1) (to + 1) b c rest i (omega arith))

-- The law of words: two words of k bytes are equal exactly when their bytes are.
pub words_equal : (k : ℕ) {xs ys : List ℕ} (at to : ℕ) → Bytes xs → Bytes ys
    → (num_at k xs at ≡ num_at k ys to) ↔ ((i : ℕ) → i < k → get_or xs (at + i) 0 ≡ get_or ys (to + i) 0)
words_equal k {xs} {ys} at to b c = (bytes_equal k xs ys at to b c, num_at_same k xs ys at to)

-- A word of k and l bytes is the one of k bytes and, above it, the one of l.
pub word_joined : (k l : ℕ) (xs : List ℕ) (at : ℕ) → num_at (k + l) xs at ≡ num_at k xs at + 256 ^ k * num_at l xs (at + k)
unfolding num_at
word_joined zero l xs at = rw (zero-add l, add-zero at) (omega arith)
word_joined (suc k) l xs at =
    let e : suc k + l ≡ suc (k + l) = omega arith in
    let f : (at + 1) + k ≡ at + suc k = omega arith in
    let h : num_at (k + l) xs (at + 1) ≡ num_at k xs (at + 1) + 256 ^ k * num_at l xs (at + suc k) = rw f at (word_joined k l xs (at + 1)) in
    rw (e, pow-suc 256 k) (omega arith)

-- ---- what differs

-- Of no bytes none differs.
pub differ_none : {xs ys : List ℕ} → DifferBelow 0 xs ys → ⊥
differ_none d = omega (arith, d.inside)

-- What differs below a count differs below a greater one.
pub differ_more : {j k : ℕ} {xs ys : List ℕ} → j ≤ k → DifferBelow j xs ys → DifferBelow k xs ys
differ_more h d = record { place = d.place; inside = omega (arith, d.inside); unequal = d.unequal }

-- A byte that differs.
pub differ_here : {k count : ℕ} {xs ys : List ℕ} → k < count → (get_or xs k 0 ≡ get_or ys k 0 → ⊥) → DifferBelow count xs ys
differ_here {k} h u = record { place = k; inside = h; unequal = u }

-- One byte more that is the same,
pub same_byte : {k : ℕ} {xs ys : List ℕ} → (DifferBelow k xs ys → ⊥) → get_or xs k 0 ≡ get_or ys k 0 → DifferBelow (k + 1) xs ys → ⊥
same_byte {k} {xs} {ys} h e d = ⊎_elim
    (λ (q : k ≤ d.place). let p : k ≡ d.place = omega (arith, d.inside) in d.unequal (subst (λ (i : ℕ). get_or xs i 0 ≡ get_or ys i 0) p e))
    (λ (q : d.place < k). h (record { place = d.place; inside = q; unequal = d.unequal }))
    (nat_le_or_lt k d.place)

-- or k bytes more, whose words are the same.
pub same_word : (k at : ℕ) {xs ys : List ℕ} → Bytes xs → Bytes ys → (DifferBelow at xs ys → ⊥) → num_at k xs at ≡ num_at k ys at
    → DifferBelow (at + k) xs ys → ⊥
same_word k at {xs} {ys} b c h e d = ⊎_elim
    (λ (q : at ≤ d.place).
    let i : ℕ = d.place - at in
    let p : at + i ≡ d.place = omega arith in
    d.unequal (subst (λ (l : ℕ). get_or xs l 0 ≡ get_or ys l 0) p ((words_equal k at at b c).0 e i (omega (arith, d.inside)))))
    (λ (q : d.place < at). h (record { place = d.place; inside = q; unequal = d.unequal }))
    (nat_le_or_lt at d.place)

-- Where two words differ, some byte of them does.
pub differ_word : (k : ℕ) (xs ys : List ℕ) (at : ℕ) → (num_at k xs at ≡ num_at k ys at → ⊥) → DifferBelow (at + k) xs ys
unfolding num_at
differ_word zero xs ys at u = absurd (u refl)
differ_word (suc k) xs ys at u = ⊎_elim
    (λ (e : get_or xs at 0 ≡ get_or ys at 0). differ_more (omega arith) (differ_word k xs ys (at + 1) (λ q. u (omega arith))))
    (λ n. differ_here (omega arith) n)
    (same_or_not (get_or xs at 0) (get_or ys at 0))

-- ---- what the test says

pub says_yes : {count : ℕ} {xs ys : List ℕ} → DifferBelow count xs ys → MarksCompared count xs ys true
says_yes d = record { yes_exactly = (λ _. d, λ _. refl) }

pub says_no : {count : ℕ} {xs ys : List ℕ} → (DifferBelow count xs ys → ⊥) → MarksCompared count xs ys false
says_no h = record { yes_exactly = (λ e. absurd (false≢true e), λ d. absurd (h d)) }

pub told_yes : {count : ℕ} {xs ys : List ℕ} {says : Bool} → MarksCompared count xs ys says → says ≡ true → DifferBelow count xs ys
told_yes c e = c.yes_exactly.0 e

pub told_no : {count : ℕ} {xs ys : List ℕ} {says : Bool} → MarksCompared count xs ys says → says ≡ false → DifferBelow count xs ys → ⊥
told_no c e d = false≢true (sym e ∙ c.yes_exactly.1 d)

-- Two lists differ or not,
pub differ_or_not : (count : ℕ) (xs ys : List ℕ) → DifferBelow count xs ys ⊎ (DifferBelow count xs ys → ⊥)
differ_or_not zero xs ys = inr differ_none
differ_or_not (suc k) xs ys = ⊎_elim
    (λ d. inl (differ_more (omega arith) d))
    (λ same. ⊎_elim
    (λ e. inr (rw (← add-one k) (same_byte same e)))
    (λ u. inl (differ_here (omega arith) u))
    (same_or_not (get_or xs k 0) (get_or ys k 0)))
    (differ_or_not k xs ys)

-- so that there is an answer, and no other.
pub marks_compared : (count : ℕ) (xs ys : List ℕ) → MarksCompared count xs ys true ⊎ MarksCompared count xs ys false
marks_compared count xs ys = ⊎_elim (λ d. inl (says_yes d)) (λ h. inr (says_no h)) (differ_or_not count xs ys)

pub compared_unique : {count : ℕ} {xs ys : List ℕ} {r s : Bool} → MarksCompared count xs ys r → MarksCompared count xs ys s → r ≡ s
compared_unique {r = true} c d = sym (d.yes_exactly.1 (c.yes_exactly.0 refl))
compared_unique {r = false} {s = true} c d = c.yes_exactly.1 (d.yes_exactly.0 refl)
compared_unique {r = false} {s = false} c d = refl

-- ---- facts

-- Two lists of just so many bytes differ exactly when they are not the same list.
pub differ_exactly : {count : ℕ} (xs ys : List ℕ) → length xs ≡ count → length ys ≡ count → DifferBelow count xs ys ↔ (xs ≡ ys → ⊥)
differ_exactly {count} xs ys e f = (λ d q. d.unequal (ap (λ (s : List ℕ). get_or s d.place 0) q), found)
  where
    found : (xs ≡ ys → ⊥) → DifferBelow count xs ys
    found u = ⊎_elim
        (λ d. d)
        (λ same. absurd (u (ext_get_or 0 xs ys (e ∙ sym f) (λ i h. ⊎_elim (λ p. p) (λ n. absurd (same (differ_here (omega arith) n))) (same_or_not (get_or xs i 0) (get_or ys i 0))))))
        (differ_or_not count xs ys)

-- The last byte of those compared counts,
pub last_byte_counts : (xs : List ℕ) (a b : ℕ) (ys zs : List ℕ) → (a ≡ b → ⊥) → MarksCompared (suc (length xs)) (xs ++ (a ∷ ys)) (xs ++ (b ∷ zs)) true
last_byte_counts xs a b ys zs u =
    let e : get_or (xs ++ (a ∷ ys)) (length xs) 0 ≡ a = get_or_at xs a ys 0 (length xs) refl in
    let f : get_or (xs ++ (b ∷ zs)) (length xs) 0 ≡ b = get_or_at xs b zs 0 (length xs) refl in
    says_yes (differ_here {k = length xs} (omega arith) (λ q. u (omega arith)))

-- and what stands behind them does not.
pub rest_plays_no_part : (xs ys zs : List ℕ) → MarksCompared (length xs) (xs ++ ys) (xs ++ zs) false
rest_plays_no_part xs ys zs = says_no (λ d. d.unequal (get_or-append xs ys 0 d.place d.inside ∙ sym (get_or-append xs zs 0 d.place d.inside)))
