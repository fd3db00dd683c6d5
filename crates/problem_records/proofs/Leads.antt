-- Laws of judging leads: the test of one field on its offset number, a run of fields judged one after the other, and blank lists.
use Prim.Native.Nat.{ℕ, zero, suc, ◌+◌, ◌*◌, ◌≤◌, ◌<◌}
use mathlib.Core.Path.{◌≡◌, refl, ap, sym, ◌∙◌}
use mathlib.Core.Bool.{Bool, true, false, ◌&&◌, ◌||◌}
use mathlib.Core.Logic.{◌⊎◌, inl, inr, ⊎_elim}
use mathlib.Core.List.{List, [], ◌∷◌, ◌++◌, map}
use native.Mathlib.Omega.{arith}
use native.Mathlib.Nat.{mul-le-mul_right}
use borrow.Author.Tests.{eq-eqb, ne_eqb, le-leb, lt-leb}
use lib.Dec.{eqb, leb}
use lib.ListN.{length}
use Rattle.base.proofs.Numbers.{nat_le_or_lt}
use Rattle.definitions.specs.Limits.{lead_limit, signed_half, signed_full}
use Rattle.definitions.specs.Bytes.{num_at, nums_at, trop_field, all, some_below, blank_or_within}
use Rattle.definitions.specs.ProblemRecord.{row_place, run_blank}
use Rattle.definitions.specs.Offset.{off}
use Rattle.definitions.proofs.Offset.{trop_off, within_offset}
use Rattle.problem_records.specs.Tables.{run_fits, row_blank}

-- The test of a field, on its offset number.
pub lead_offset : (w k : ℕ) → w < signed_full → k ≡ off w
    → blank_or_within lead_limit (trop_field w) ≡ (eqb k 0 || (leb signed_half (k + lead_limit) && leb k (signed_half + lead_limit)))
lead_offset w k h e = ap (blank_or_within lead_limit) (sym (trop_off w h)) ∙ rw (← e) (within_offset lead_limit k (omega arith))

-- A number that is not blank, below the limit on one side; and one that is not.
pub lead_early : {w k : ℕ} → w < signed_full → k ≡ off w → 0 < k → k + lead_limit < signed_half → false ≡ blank_or_within lead_limit (trop_field w)
lead_early {w} {k} h e s l = sym (lead_offset w k h e ∙ rw (ne_eqb k 0 (omega arith), lt-leb signed_half (k + lead_limit) l) refl)

pub lead_late : {w k : ℕ} → w < signed_full → k ≡ off w → 0 < k → signed_half ≤ k + lead_limit → leb k (signed_half + lead_limit) ≡ blank_or_within lead_limit (trop_field w)
lead_late {w} {k} h e s l = sym (lead_offset w k h e ∙ rw (ne_eqb k 0 (omega arith), le-leb signed_half (k + lead_limit) l) refl)

-- A run of fields with one more behind it.
run_more : (k count : ℕ) (s : List ℕ) (at : ℕ) → nums_at k (suc count) s at ≡ nums_at k count s at ++ (num_at k s (at + k * count) ∷ [])
unfolding nums_at
run_more k zero s at = let e : at + k * 0 ≡ at = omega arith in rw e refl
run_more k (suc count) s at =
    let e : at + k + k * count ≡ at + k * suc count = omega arith in
    ap (◌∷◌ (num_at k s at)) (run_more k count s (at + k) ∙ rw e refl)

all_more : {A : Type 0} (test : A → Bool) (xs : List A) (x : A) → all test (xs ++ (x ∷ [])) ≡ (all test xs && test x)
unfolding all
all_more test [] x = and_true (test x)
  where
    and_true : (b : Bool) → (b && true) ≡ b
    and_true true = refl
    and_true false = refl
all_more test (y ∷ xs) x = ap (λ (b : Bool). test y && b) (all_more test xs x) ∙ and_assoc (test y) (all test xs) (test x)
  where
    and_assoc : (a b c : Bool) → (a && (b && c)) ≡ ((a && b) && c)
    and_assoc true b c = refl
    and_assoc false b c = refl

map_more : {A B : Type 0} (f : A → B) (xs : List A) (x : A) → map f (xs ++ (x ∷ [])) ≡ map f xs ++ (f x ∷ [])
map_more f [] x = refl
map_more f (y ∷ xs) x = ap (◌∷◌ (f y)) (map_more f xs x)

-- No lead is judged yet; one lead more is.
pub fit_none : (s : List ℕ) (start : ℕ) → true ≡ run_fits s 0 start
unfolding nums_at all
fit_none s start = refl

pub fit_more : (s : List ℕ) (start i : ℕ) {w : ℕ} {fit r : Bool} → fit ≡ run_fits s i start → w ≡ num_at 4 s (start + 4 * i) → r ≡ blank_or_within lead_limit (trop_field w)
    → (fit && r) ≡ run_fits s (i + 1) start
fit_more s start i {w} {fit} {r} e f g =
    let next : i + 1 ≡ suc i = omega arith in
    rw (
      next,
      run_more 4 i s start,
      map_more trop_field (nums_at 4 i s start) (num_at 4 s (start + 4 * i)),
      all_more (blank_or_within lead_limit) (map trop_field (nums_at 4 i s start)) (trop_field (num_at 4 s (start + 4 * i))),
      e,
      g,
      f,
    ) refl

-- No lead is looked at yet; one lead more is.
pub blank_none : (s : List ℕ) (start : ℕ) → true ≡ run_blank s 0 start
unfolding nums_at all
blank_none s start = refl

eqb_sym : (a b : ℕ) → eqb a b ≡ eqb b a
eqb_sym a b = ⊎_elim
    (λ (h : a ≡ b). eq-eqb a b h ∙ sym (eq-eqb b a (sym h)))
    (λ (h : a ≡ b → ⊥). ne_eqb a b h ∙ sym (ne_eqb b a (λ e. h (sym e))))
    (nat_same a b)
  where
    nat_same : (a b : ℕ) → (a ≡ b) ⊎ (a ≡ b → ⊥)
    nat_same zero zero = inl refl
    nat_same zero (suc b) = inr (λ e. omega arith)
    nat_same (suc a) zero = inr (λ e. omega arith)
    nat_same (suc a) (suc b) = ⊎_elim (λ (e : a ≡ b). inl (ap suc e)) (λ (h : a ≡ b → ⊥). inr (λ e. h (omega arith))) (nat_same a b)

pub blank_more : (s : List ℕ) (start i : ℕ) {w : ℕ} {blank : Bool} → blank ≡ run_blank s i start → w ≡ num_at 4 s (start + 4 * i)
    → (blank && eqb w signed_half) ≡ run_blank s (i + 1) start
blank_more s start i {w} {blank} e f =
    let next : i + 1 ≡ suc i = omega arith in
    rw (next, eqb_sym w signed_half, run_more 4 i s start, all_more (eqb signed_half) (nums_at 4 i s start) (num_at 4 s (start + 4 * i)), e, f) refl

-- A test that passes for a number passes for some.
pub some_last : (test : ℕ → Bool) (i m : ℕ) → i < m → test i ≡ true → true ≡ some_below test m
unfolding some_below
some_last test i zero h e = absurd (omega arith)
some_last test i (suc m) h e = ⊎_elim
    (λ (q : m ≤ i). let d : i ≡ m = omega arith in or_last (some_below test m) (rw d at e))
    (λ (q : i < m). or_first (test m) (some_last test i m q e))
    (nat_le_or_lt m i)
  where
    or_last : (a : Bool) {b : Bool} → b ≡ true → true ≡ (a || b)
    or_last true e = refl
    or_last false e = sym e

    or_first : (b : Bool) {a : Bool} → true ≡ a → true ≡ (a || b)
    or_first b e = rw (← e) refl

-- The first i rules have a left lead that is not blank; one more has, or has none.
pub speaking_none : (s : List ℕ) (start n : ℕ) → some_below (row_blank s start n) 0 ≡ false
unfolding some_below
speaking_none s start n = refl

pub speaking_more : (s : List ℕ) (start n i : ℕ) {at : ℕ} {r : Bool} → some_below (row_blank s start n) i ≡ false → at ≡ row_place start n i → r ≡ run_blank s (n + 1) at → r ≡ false
    → some_below (row_blank s start n) (i + 1) ≡ false
unfolding some_below
speaking_more s start n i {at} {r} b p e f =
    let next : i + 1 ≡ suc i = omega arith in
    let row : row_blank s start n i ≡ false = rw p at (sym e ∙ f) in
    rw (next, b, row) refl

pub speaking_not : (s : List ℕ) (start n m i : ℕ) {at : ℕ} {r : Bool} → i < m → at ≡ row_place start n i → r ≡ run_blank s (n + 1) at → r ≡ true → true ≡ some_below (row_blank s start n) m
speaking_not s start n m i h p e f = some_last (row_blank s start n) i m h (rw p at (sym e ∙ f))

-- The row lies inside.
pub speaking_inside : (s : List ℕ) (start n m i : ℕ) → i < m → row_place start n m ≤ length s → start + 2 * 4 * (n + 1) * i + 2 * 4 * (n + 1) ≤ length s
speaking_inside s start n m i h l = omega (arith, mul-le-mul_right {m = suc i} {n = m} (suc n) h)
