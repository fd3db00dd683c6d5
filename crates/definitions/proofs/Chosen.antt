-- Rows chosen by a test: how many stay, and where each stood. Document 02, 2.6 and 2.10.
use Prim.Native.Nat.{ℕ, zero, suc, ◌+◌, ◌-◌, ◌≤◌, ◌<◌}
use mathlib.Core.Path.{◌≡◌, refl, sym}
use mathlib.Core.Bool.{Bool, true, false, cond}
use mathlib.Core.Logic.{⊎_elim}
use native.Mathlib.Omega.{arith}
use borrow.Author.Tests.{lt-ltb, le-ltb}
use Rattle.base.proofs.Numbers.{nat_le_or_lt}
use Rattle.definitions.specs.Selection.{left_below, left_at, Ascending}

module _ (out : ℕ → Bool) where
  -- At most all stay, and of more rows at least as many.
  pub left_most : (k : ℕ) → left_below out k ≤ k
  unfolding left_below
  left_most zero = omega arith
  left_most (suc k) = go (out k) (left_most k)
    where
      go : (b : Bool) → left_below out k ≤ k → left_below out k + cond b 0 1 ≤ suc k
      go true h = omega arith
      go false h = omega arith

  pub left_more : (k d : ℕ) → left_below out k ≤ left_below out (d + k)
  unfolding left_below
  left_more k zero = let e : 0 + k ≡ k = omega arith in rw e (omega arith)
  left_more k (suc d) = let e : suc d + k ≡ suc (d + k) = omega arith in rw e (omega (arith, left_more k d))

  pub left_grows : (k m : ℕ) → k ≤ m → left_below out k ≤ left_below out m
  left_grows k m h = let e : (m - k) + k ≡ m = omega arith in rw e at (left_more k (m - k))

  -- The i-th that stays is one of the rows, and not one that is left out.
  pub left_inside : (k i : ℕ) → i < left_below out k → left_at out k i < k
  unfolding left_at left_below
  left_inside zero i h = absurd (omega arith)
  left_inside (suc k) i h = ⊎_elim
      (λ (q : left_below out k ≤ i). rw (le-ltb i (left_below out k) q) (omega arith))
      (λ (q : i < left_below out k). rw (lt-ltb i (left_below out k) q) (omega (arith, left_inside k i q)))
      (nat_le_or_lt (left_below out k) i)

  pub last_stays : (k i : ℕ) (b : Bool) → out k ≡ b → i < left_below out k + cond b 0 1 → left_below out k ≤ i → (b ≡ false) × (i ≡ left_below out k)
  last_stays k i true e h q = absurd (omega arith)
  last_stays k i false e h q = (refl, omega arith)

  pub left_stays : (k i : ℕ) → i < left_below out k → out (left_at out k i) ≡ false
  unfolding left_at left_below
  left_stays zero i h = absurd (omega arith)
  left_stays (suc k) i h = ⊎_elim
      (λ (q : left_below out k ≤ i). rw (le-ltb i (left_below out k) q) (last_stays k i (out k) refl h q).0)
      (λ (q : i < left_below out k). rw (lt-ltb i (left_below out k) q) (left_stays k i q))
      (nat_le_or_lt (left_below out k) i)

  -- Their order stays.
  pub left_rises : (k : ℕ) → Ascending (left_at out k) (left_below out k)
  unfolding left_at left_below
  left_rises k = record { rises = go k }
    where
      go : (k i j : ℕ) → i < j → j < left_below out k → left_at out k i < left_at out k j
      go zero i j h l = absurd (omega arith)
      go (suc k) i j h l = ⊎_elim
          (λ (q : left_below out k ≤ j).
          let d : j ≡ left_below out k = (last_stays k j (out k) refl l q).1 in
          let b : i < left_below out k = omega arith in
          rw (le-ltb j (left_below out k) q, lt-ltb i (left_below out k) b) (left_inside k i b))
          (λ (q : j < left_below out k). rw (lt-ltb j (left_below out k) q, lt-ltb i (left_below out k) (omega arith)) (go k i j h q))
          (nat_le_or_lt (left_below out k) j)

  -- Every row that is not left out stays.
  pub record Found (k r : ℕ) : Type 0 where
    pub place : ℕ
    pub inside : place < left_below out k
    pub is : left_at out k place ≡ r

  pub left_found : (k r : ℕ) → r < k → out r ≡ false → Found k r
  unfolding left_at left_below
  left_found zero r h e = absurd (omega arith)
  left_found (suc k) r h e = ⊎_elim
      (λ (q : k ≤ r).
      let d : r ≡ k = omega arith in
      let here : out k ≡ false = rw d at e in
      record { place = left_below out k; inside = rw here (omega arith); is = rw (le-ltb (left_below out k) (left_below out k) (omega arith)) (sym d) })
      (λ (q : r < k).
      let f = left_found k r q e in
      record { place = f.place; inside = omega (arith, f.inside); is = rw (lt-ltb f.place (left_below out k) f.inside) f.is })
      (nat_le_or_lt k r)
