-- Arrays that hold a list and 0 behind it: filled one element after the other, and what they hold in the end.
use Prim.Native.Nat.{ℕ, zero, suc, ◌+◌, ◌≤◌, ◌<◌}
use mathlib.Core.Path.{◌≡◌, ap, sym, subst, ◌∙◌}
use mathlib.Core.List.{List}
use mathlib.Core.Logic.{⊎_elim}
use native.Mathlib.Omega.{arith}
use lib.ListN.{length, get_or, set, take, replicate, length-set, length-replicate, length-take, get_or-eq_default}
use lib.Seq.{ext_get_or, get_or-take, get_or-set_same, get_or-set_other, length-take-le, take_all}
use Rattle.base.proofs.Numbers.{nat_le_or_lt}
use Rattle.base.proofs.Filled.{zeros}
use Rattle.std.specs.Array.{IsFromFnResult, IsFromFnResultFrom}
use Rattle.std.specs.Fn.{Called}
use denote.Param.Members.{Mut}
use Rattle.answer_reader.specs.Fields.{Padded}

-- What stands in the first n elements of a list, and 0 behind them.
take_below : (n : ℕ) (xs : List ℕ) (k : ℕ) → k < n → get_or (take n xs) k 0 ≡ get_or xs k 0
take_below n xs k h = get_or-take n xs k 0 h

take_past : (n : ℕ) (xs : List ℕ) (k : ℕ) → n ≤ k → get_or (take n xs) k 0 ≡ 0
take_past n xs k h = get_or-eq_default (take n xs) 0 (rw length-take (omega arith))

-- An array made element by element, by a closure that keeps what it captured, holds what the closure gives.
made_from : {F : Type 0} (g : Mut F (ℕ × Unit {0}) ℕ) (h : ℕ → ℕ) (f : F) (ys : List ℕ) (a n : ℕ) → ((i y : ℕ) (q : F) → Called g f (i, tt) y q → (q ≡ f) × (y ≡ h i))
    → IsFromFnResultFrom g f ys a n → (k : ℕ) → a ≤ k → k < a + n → get_or ys k 0 ≡ h k
made_from g h f ys a zero keeps each k low high = absurd (omega arith)
made_from {F} g h f ys a (suc n) keeps (q, y, is, called, rest) k low high =
    let kept = keeps a y q called in
    ⊎_elim
    (λ (l : a + 1 ≤ k). made_from g h f ys (a + 1) n keeps (subst (λ (x : F). IsFromFnResultFrom g x ys (a + 1) n) kept.0 rest) k l (omega arith))
    (λ (l : k < a + 1). let s : a ≡ k = omega arith in subst (λ (j : ℕ). get_or ys j 0 ≡ h j) s (is.1 0 ∙ kept.1))
    (nat_le_or_lt (a + 1) k)

pub padded_made : {F : Type 0} (g : Mut F (ℕ × Unit {0}) ℕ) (f : F) (ys : List ℕ) (width : ℕ) (xs : List ℕ) → ((i y : ℕ) (q : F) → Called g f (i, tt) y q → (q ≡ f) × (y ≡ get_or xs i 0))
    → length xs ≤ width → IsFromFnResult g f ys width → Padded width xs ys
padded_made g f ys width xs keeps most made =
    record {
      width_is = made.long;
      element = λ k. ⊎_elim
          (λ (l : width ≤ k). get_or-eq_default ys 0 (rw made.long l) ∙ sym (get_or-eq_default xs 0 (omega arith)))
          (λ (l : k < width). made_from g (λ i. get_or xs i 0) f ys 0 width keeps made.each k (omega arith) (omega arith))
          (nat_le_or_lt width k);
    }

-- An array that holds the first i elements of the list, and 0 behind them.
pub record Filling (width : ℕ) (xs : List ℕ) (i : ℕ) (array : List ℕ) : Type 0 where
  pub so_far : Padded width (take i xs) array

-- An array of 0 holds the first none.
pub padded_start : (width : ℕ) (xs : List ℕ) → Filling width xs 0 (replicate width 0)
padded_start width xs = record { so_far = record { width_is = length-replicate width 0; element = λ k. zeros width k ∙ sym (take_past 0 xs k (omega arith)) } }

-- One more element.
pub padded_turn : {width i x : ℕ} {xs array : List ℕ} → Filling width xs i array → i < width → x ≡ get_or xs i 0 → Filling width xs (i + 1) (set array i x)
padded_turn {width} {i} {x} {xs} {array} f h e =
    record { so_far = record { width_is = rw length-set f.so_far.width_is; element = λ k. ⊎_elim (past k) (up_to k) (nat_le_or_lt (i + 1) k) } }
  where
    other : (k : ℕ) → (k ≡ i → ⊥) → get_or (set array i x) k 0 ≡ get_or (take i xs) k 0
    other k d = get_or-set_other array i k x 0 d ∙ f.so_far.element k

    past : (k : ℕ) → i + 1 ≤ k → get_or (set array i x) k 0 ≡ get_or (take (i + 1) xs) k 0
    past k l = other k (omega arith) ∙ take_past i xs k (omega arith) ∙ sym (take_past (i + 1) xs k l)

    up_to : (k : ℕ) → k < i + 1 → get_or (set array i x) k 0 ≡ get_or (take (i + 1) xs) k 0
    up_to k l = ⊎_elim
        (λ (d : i ≤ k).
        let s : i ≡ k = omega arith in
        subst (λ (j : ℕ). get_or (set array i x) j 0 ≡ get_or (take (i + 1) xs) j 0) s
        (get_or-set_same array i x 0 (rw f.so_far.width_is h) ∙ e ∙ sym (take_below (i + 1) xs i (omega arith))))
        (λ (d : k < i). other k (omega arith) ∙ take_below i xs k d ∙ sym (take_below (i + 1) xs k (omega arith)))
        (nat_le_or_lt i k)

-- All elements.
pub padded_end : {width i : ℕ} {xs array : List ℕ} → Filling width xs i array → length xs ≤ i → Padded width xs array
padded_end {xs = xs} {array = array} f h =
    record { width_is = f.so_far.width_is; element = λ k. f.so_far.element k ∙ ap (λ (l : List ℕ). get_or l k 0) (take_all _ xs h) }

-- The list stands at the front of the array.
pub padded_take : {width : ℕ} {xs array : List ℕ} → Padded width xs array → length xs ≤ width → take (length xs) array ≡ xs
padded_take {width} {xs} {array} p h =
    ext_get_or 0 (take (length xs) array) xs
    (length-take-le (length xs) array (rw p.width_is h))
    (λ k l. take_below (length xs) array k (rw (length-take-le (length xs) array (rw p.width_is h)) at l) ∙ p.element k)
