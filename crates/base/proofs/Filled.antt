-- Laws of lists that a loop fills: zeros, one place set, an array filled from the front, a run filled.
use Prim.Native.Nat.{ℕ, zero, suc, ◌+◌, ◌≤◌, ◌<◌}
use mathlib.Core.Path.{◌≡◌, refl, sym, subst, ◌∙◌}
use mathlib.Core.Logic.{⊎_elim}
use mathlib.Core.List.{List}
use native.Mathlib.Omega.{arith}
use lib.ListN.{length, get_or, set, replicate, length-set, length-replicate}
use lib.Seq.{get_or-set_same, get_or-set_other}
use Rattle.base.specs.Filled.{Filled, FilledFrom}
use Rattle.base.proofs.Numbers.{nat_le_or_lt, one_more}

-- Zeros alone, read anywhere.
pub zeros : (size k : ℕ) → get_or {A = ℕ} (replicate size 0) k 0 ≡ 0
zeros zero k = refl
zeros (suc size) zero = refl
zeros (suc size) (suc k) = zeros size k

-- The place that is set has the value, the others what they had.
pub set_here : (l : List ℕ) (i v : ℕ) → i < length l → get_or (set l i v) i 0 ≡ v
set_here l i v h = get_or-set_same l i v 0 h

pub set_there : (l : List ℕ) (i k v : ℕ) → (k ≡ i → ⊥) → get_or (set l i v) k 0 ≡ get_or l k 0
set_there l i k v h = get_or-set_other l i k v 0 h

-- ---- an array, from the front

-- Before the loop.
pub filled_none : {P : ℕ → ℕ → Type 0} (size : ℕ) → Filled P size 0 (replicate size 0)
filled_none {P} size = record {
  size_is = length-replicate {A = ℕ} size 0;
  each = λ k h. absurd (omega arith);
  rest = λ k h. zeros size k;
}

-- One turn.
pub filled_more : {P : ℕ → ℕ → Type 0} {size n : ℕ} {xs : List ℕ} {v : ℕ} → Filled P size n xs → n < size → P n v
    → Filled P size (n + 1) (set xs n v)
filled_more {P} {size} {n} {xs} {v} f h p = record {
  size_is = length-set xs n v ∙ f.size_is;
  each = λ k b. ⊎_elim (at_end k b) (before k) (nat_le_or_lt n k);
  rest = λ k b. get_or-set_other xs n k v 0 (λ e. omega arith) ∙ f.rest k (omega arith);
}
  where
    at_end : (k : ℕ) → k < n + 1 → n ≤ k → P k (get_or (set xs n v) k 0)
    at_end k b l =
        let e : n ≡ k = omega arith in
        let s : n < length xs = omega (arith, f.size_is) in
        subst (λ (i : ℕ). P i (get_or (set xs n v) i 0)) e (subst (P n) (sym (get_or-set_same xs n v 0 s)) p)

    before : (k : ℕ) → k < n → P k (get_or (set xs n v) k 0)
    before k l = subst (P k) (sym (get_or-set_other xs n k v 0 (λ e. omega arith))) (f.each k l)

-- The end of a loop that ran to w.
pub filled_end : {P : ℕ → ℕ → Type 0} {size n w : ℕ} {xs : List ℕ} → Filled P size n xs → n ≤ w → w ≤ n → Filled P size w xs
filled_end {P} {size} {n} {w} {xs} f h k = let e : n ≡ w = omega arith in subst (λ (i : ℕ). Filled P size i xs) e f

-- What holds of the elements may be put in other words.
pub filled_map : {P Q : ℕ → ℕ → Type 0} {size n : ℕ} {xs : List ℕ} → ((k v : ℕ) → k < n → P k v → Q k v) → Filled P size n xs → Filled Q size n xs
filled_map g f = record { size_is = f.size_is; each = λ k h. g k _ h (f.each k h); rest = f.rest }

-- ---- a run of a list

-- Nothing is filled yet.
pub run_none : (f : ℕ → ℕ) (base : ℕ) (old : List ℕ) → FilledFrom f base 0 old old
run_none f base old = record { same = refl; before = λ k h. refl; cells = λ l h. absurd (omega arith); after = λ k h. refl }

-- One more element is stored.
pub run_more : {f : ℕ → ℕ} {base k : ℕ} {old new : List ℕ} {v : ℕ} → FilledFrom f base k old new → base + k < length new → v ≡ f k
    → FilledFrom f base (k + 1) old (set new (base + k) v)
run_more {f} {base} {k} {old} {new} {v} h b e = record {
  same = length-set new (base + k) v ∙ h.same;
  before = λ i l. set_there new (base + k) i v (λ q. omega arith) ∙ h.before i l;
  cells = one_more k (λ l m. set_there new (base + k) (base + l) v (λ q. omega arith) ∙ h.cells l m) (set_here new (base + k) v b ∙ e);
  after = λ i l. set_there new (base + k) i v (λ q. omega arith) ∙ h.after i (omega arith);
}

-- All elements are stored.
pub run_end : {f : ℕ → ℕ} {base j count : ℕ} {old new : List ℕ} → FilledFrom f base j old new → j ≤ count → count ≤ j → FilledFrom f base count old new
run_end l h k = record { same = l.same; before = l.before; cells = λ i b. l.cells i (omega arith); after = λ i b. l.after i (omega arith) }
