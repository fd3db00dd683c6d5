-- The line as a ring: its entries, one that joins the end, and the head that leaves.
use Prim.Native.Nat.{ℕ, zero, suc, ◌+◌, ◌-◌, ◌%◌, ◌<◌}
use mathlib.Core.Path.{◌≡◌, refl, sym, ap, ap₂, ◌∙◌}
use mathlib.Core.List.{List, [], ◌∷◌, ◌++◌}
use native.Mathlib.Omega.{arith}
use native.Mathlib.Numerals.{add-one}
use lib.ListN.{length, get_or, set}
use lib.Seq.{get_or-set_same, get_or-set_other}
use Rattle.desk.specs.State.{ring}

-- It has as many entries as wait.
pub ring_length : (l : List ℕ) (h n : ℕ) → length (ring l h n) ≡ n
unfolding ring
ring_length l h zero = refl
ring_length l h (suc n) = ap suc (ring_length l (h + 1) n)

-- The head may be told by its remainder.
pub ring_turn : (l : List ℕ) (h k n : ℕ) → h % 16 ≡ k % 16 → ring l h n ≡ ring l k n
unfolding ring
ring_turn l h k zero e = refl
ring_turn l h k (suc n) e =
    let f : (h + 1) % 16 ≡ (k + 1) % 16 = omega arith in
    ap₂ (λ (a : ℕ) (r : List ℕ). get_or l a 0 ∷ r) e (ring_turn l (h + 1) (k + 1) n f)

-- One entry more at the end.
ring_more : (l : List ℕ) (h n : ℕ) → ring l h (suc n) ≡ ring l h n ++ (get_or l ((h + n) % 16) 0 ∷ [])
unfolding ring
ring_more l h zero = let e : h % 16 ≡ (h + 0) % 16 = omega arith in ap (λ (a : ℕ). get_or l a 0 ∷ []) e
ring_more l h (suc n) =
    let e : (h + 1 + n) % 16 ≡ (h + suc n) % 16 = omega arith in
    ap (λ (r : List ℕ). get_or l (h % 16) 0 ∷ r) (ring_more l (h + 1) n ∙ ap (λ (a : ℕ). ring l (h + 1) n ++ (get_or l a 0 ∷ [])) e)

-- An entry elsewhere in the ring changes nothing.
pub ring_other : (l : List ℕ) (h n q x : ℕ) → ((k : ℕ) → k < n → (h + k) % 16 ≡ q → ⊥) → ring (set l q x) h n ≡ ring l h n
unfolding ring
ring_other l h zero q x d = refl
ring_other l h (suc n) q x d = ap₂ (λ (a : ℕ) (r : List ℕ). a ∷ r)
    (get_or-set_other l q (h % 16) x 0 (λ e. d 0 (omega arith) (let f : (h + 0) % 16 ≡ h % 16 = omega arith in f ∙ e)))
    (ring_other l (h + 1) n q x (λ k b e. d (suc k) (omega arith) (let f : (h + suc k) % 16 ≡ (h + 1 + k) % 16 = omega arith in f ∙ e)))

-- One joins the end.
pub ring_join : (l : List ℕ) (h n x : ℕ) → length l ≡ 16 → n < 16 → ring (set l ((h + n) % 16) x) h (n + 1) ≡ ring l h n ++ (x ∷ [])
ring_join l h n x e b =
    ap (λ (k : ℕ). ring (set l ((h + n) % 16) x) h k) (add-one n)
    ∙ ring_more (set l ((h + n) % 16) x) h n
    ∙ ap₂ (λ (r : List ℕ) (a : ℕ). r ++ (a ∷ [])) (ring_other l h n ((h + n) % 16) x (λ k c f. absurd (apart k c f))) (get_or-set_same l ((h + n) % 16) x 0 (omega arith))
  where
    apart : (k : ℕ) → k < n → (h + k) % 16 ≡ (h + n) % 16 → ⊥
    apart k c f = omega arith

-- The head and the others.
pub ring_head : (l : List ℕ) (h n : ℕ) → h < 16 → 0 < n → ring l h n ≡ get_or l h 0 ∷ ring l ((h + 1) % 16) (n - 1)
unfolding ring
ring_head l h zero b c = absurd (omega arith)
ring_head l h (suc n) b c =
    let e : h % 16 ≡ h = omega arith in
    let f : suc n - 1 ≡ n = omega arith in
    let g : (h + 1) % 16 ≡ (h + 1) % 16 % 16 = omega arith in
    ap₂ (λ (a : ℕ) (r : List ℕ). get_or l a 0 ∷ r) e (ring_turn l (h + 1) ((h + 1) % 16) n g ∙ ap (λ (k : ℕ). ring l ((h + 1) % 16) k) (sym f))
