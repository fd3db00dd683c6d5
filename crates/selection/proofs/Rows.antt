-- Rows of a selection: where each stands in the problem, what it is raised by, and which rows are left out.
use Prim.Native.Nat.{ℕ, zero, suc, ◌≤◌, ◌<◌}
use mathlib.Core.Path.{◌≡◌, refl, sym, ◌∙◌}
use mathlib.Core.Bool.{Bool, true, false, cond}
use mathlib.Core.Logic.{◌⊎◌, inl, inr, ⊎_elim}
use native.Mathlib.Omega.{arith}
use lib.Dec.{eqb}
use lib.IntN.{ℤ}
use borrow.Author.Tests.{eqb-true, eqb-false}
use Rattle.definitions.specs.Problem.{Problem}
use Rattle.definitions.specs.Certificate.{raise, ArcBy}
use Rattle.definitions.specs.Selection.{row_of, selected, Choice, Ascending, LeftOut, place_of, renumber}
use Rattle.base.proofs.Numbers.{nat_le_or_lt}
use Rattle.definitions.proofs.Raise.{raised, unraised}
use Rattle.definitions.proofs.Selection.{row_chosen, row_objective}
use Rattle.selection.specs.Chosen.{Chosen}

-- Rows that ascend are distinct.
pub ascending_distinct : {f : ℕ → ℕ} {m' : ℕ} → Ascending f m' → (i k : ℕ) → i < m' → k < m' → f i ≡ f k → i ≡ k
ascending_distinct {f} a i k h l e = ⊎_elim
    (λ (b : k ≤ i). ⊎_elim
    (λ (c : i ≤ k). omega arith)
    (λ (c : k < i). absurd (omega (arith, a.rises k i c h)))
    (nat_le_or_lt i k))
    (λ (b : i < k). absurd (omega (arith, a.rises i k b l)))
    (nat_le_or_lt k i)

-- ---- what stands in a row

-- Row i stands in a row of p,
pub row_inside : {p : Problem} {f : ℕ → ℕ} {m' : ℕ} → Choice p f m' → (i : ℕ) → i ≤ m' → row_of p f m' i ≤ p.m
row_inside {p} {f} {m'} c i h = ⊎_elim
    (λ (l : m' ≤ i). let e : i ≡ m' = omega arith in rw (e, row_objective p f m') (omega arith))
    (λ (l : i < m'). rw (row_chosen p f m' i l) (omega (arith, c.inside i l)))
    (nat_le_or_lt m' i)

-- in the objective only if it is the objective,
pub row_last : {p : Problem} {f : ℕ → ℕ} {m' : ℕ} → Choice p f m' → (i : ℕ) → i ≤ m' → row_of p f m' i ≡ p.m → i ≡ m'
row_last {p} {f} {m'} c i h e = ⊎_elim
    (λ (l : m' ≤ i). omega arith)
    (λ (l : i < m'). absurd (omega (arith, c.inside i l, row_chosen p f m' i l)))
    (nat_le_or_lt m' i)

-- and is raised by as much.
pub row_raised : {p : Problem} {f : ℕ → ℕ} {m' : ℕ} → Choice p f m' → (t : ℤ) (i : ℕ) → i ≤ m'
    → raise (selected p f m') t i ≡ raise p t (row_of p f m' i)
row_raised {p} {f} {m'} c t i h = ⊎_elim
    (λ (l : m' ≤ i). let e : i ≡ m' = omega arith in rw (e, row_objective p f m') (raised (selected p f m') t ∙ sym (raised p t)))
    (λ (l : i < m').
    unraised (selected p f m') t i (λ (e : i ≡ m'). omega arith)
    ∙ sym (unraised p t (row_of p f m' i) (λ (e : row_of p f m' i ≡ p.m). let d : i ≡ m' = row_last c i h e in omega arith)))
    (nat_le_or_lt m' i)

-- So an arc by a row is one by the row of p that stands there,
pub by_all :
    {p : Problem} {f : ℕ → ℕ} {m' : ℕ} → Choice p f m' → {t : ℤ} {i j l : ℕ} {w : ℤ} → i ≤ m'
    → ArcBy (selected p f m') t i j l w → ArcBy p t (row_of p f m' i) j l w
by_all c {t} {i} h a =
    record { a = a.a; b = a.b; left_is = a.left_is; right_is = a.right_is; weighs = rw (← row_raised c t i h) a.weighs }

-- and the converse.
pub by_selected :
    {p : Problem} {f : ℕ → ℕ} {m' : ℕ} → Choice p f m' → {t : ℤ} {i j l : ℕ} {w : ℤ} → i ≤ m'
    → ArcBy p t (row_of p f m' i) j l w → ArcBy (selected p f m') t i j l w
by_selected c {t} {i} h a =
    record { a = a.a; b = a.b; left_is = a.left_is; right_is = a.right_is; weighs = rw (row_raised c t i h) a.weighs }

-- ---- the place of a row

-- What is found at a place stands there.
pub place_back : (row : ℕ → ℕ) (count i k : ℕ) → place_of row count i ≡ suc k → (k < count) × (row k ≡ i)
unfolding place_of
place_back row zero i k e = absurd (omega arith)
place_back row (suc count) i k e = go (eqb (row count) i) refl e (place_back row count i k)
  where
    go : (b : Bool) → eqb (row count) i ≡ b → cond b (suc count) (place_of row count i) ≡ suc k
        → (place_of row count i ≡ suc k → (k < count) × (row k ≡ i)) → (k < suc count) × (row k ≡ i)
    go true d q r = let s : count ≡ k = omega arith in (omega arith, rw s at (eqb-true (row count) i d))
    go false d q r = let s = r q in (omega arith, s.1)

-- What is not found stands nowhere.
pub place_none : (row : ℕ → ℕ) (count i k : ℕ) → place_of row count i ≡ 0 → k < count → row k ≡ i → ⊥
unfolding place_of
place_none row zero i k e h q = omega arith
place_none row (suc count) i k e h q = go (eqb (row count) i) refl e (place_none row count i k)
  where
    go : (b : Bool) → eqb (row count) i ≡ b → cond b (suc count) (place_of row count i) ≡ 0
        → (place_of row count i ≡ 0 → k < count → row k ≡ i → ⊥) → ⊥
    go true d z r = omega arith
    go false d z r = ⊎_elim
        (λ (l : count ≤ k). let s : k ≡ count = omega arith in eqb-false (row count) i d (rw s at q))
        (λ (l : k < count). r z l q)
        (nat_le_or_lt count k)

-- Every row of p is a row of the selection or left out.
pub chosen_or_left_out : (p : Problem) (f : ℕ → ℕ) (m' i : ℕ) → i ≤ p.m → Chosen p f m' i ⊎ LeftOut p f m' i
chosen_or_left_out p f m' i h = go (place_of (row_of p f m') (suc m') i) refl
  where
    go : (k : ℕ) → place_of (row_of p f m') (suc m') i ≡ k → Chosen p f m' i ⊎ LeftOut p f m' i
    go zero e = inr (record {
      inside = ⊎_elim
          (λ (l : p.m ≤ i). absurd (place_none (row_of p f m') (suc m') i m' e (omega arith) (omega (arith, row_objective p f m'))))
          (λ (l : i < p.m). l)
          (nat_le_or_lt p.m i);
      nowhere = λ k l q. place_none (row_of p f m') (suc m') i k e (omega arith) (row_chosen p f m' k l ∙ q);
    })
    go (suc k) e = let r = place_back (row_of p f m') (suc m') i k e in inl (record { place = k; inside = omega arith; is = r.1 })

-- So one that is not left out is one.
pub not_left_out : (p : Problem) (f : ℕ → ℕ) (m' i : ℕ) → i ≤ p.m → (LeftOut p f m' i → ⊥) → Chosen p f m' i
not_left_out p f m' i h d = ⊎_elim (λ c. c) (λ o. absurd (d o)) (chosen_or_left_out p f m' i h)

-- ---- picks

-- A renumbered pick is of the row that was picked.
pub renumber_back : (p : Problem) (f : ℕ → ℕ) (m' k i : ℕ) → renumber p f m' k ≡ suc i → (i ≤ m') × (k ≡ suc (row_of p f m' i))
unfolding renumber
renumber_back p f m' zero i e = absurd (omega arith)
renumber_back p f m' (suc k) i e = let r = place_back (row_of p f m') (suc m') k i e in (omega arith, omega arith)

-- A pick of a row of the selection is renumbered to a pick of it.
pub renumber_on : (p : Problem) (f : ℕ → ℕ) (m' k i : ℕ) → k ≡ suc i → Chosen p f m' i
    → (c : Chosen p f m' i) × (renumber p f m' k ≡ suc c.place)
unfolding renumber
renumber_on p f m' zero i e c = absurd (omega arith)
renumber_on p f m' (suc k) i e c = go (place_of (row_of p f m') (suc m') k) refl
  where
    go : (r : ℕ) → place_of (row_of p f m') (suc m') k ≡ r → (c : Chosen p f m' i) × (r ≡ suc c.place)
    go zero d = absurd (place_none (row_of p f m') (suc m') k c.place d (omega (arith, c.inside)) (omega (arith, c.is)))
    go (suc r) d =
        let s = place_back (row_of p f m') (suc m') k r d in
        (record { place = r; inside = omega arith; is = omega arith }, refl)

-- It is never above the highest.
pub renumber_none_above : (p : Problem) (f : ℕ → ℕ) (m' k : ℕ) → renumber p f m' k ≤ suc m'
renumber_none_above p f m' k = go (renumber p f m' k) refl
  where
    go : (r : ℕ) → renumber p f m' k ≡ r → r ≤ suc m'
    go zero e = omega arith
    go (suc r) e = omega (arith, (renumber_back p f m' k r e).0)
