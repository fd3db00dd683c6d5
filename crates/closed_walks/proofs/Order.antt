-- Laws of the marked variables in order: one more variable looked at, and each marked one found.
use Rattle.std.proofs.Common.{◌≡◌, ℕ, zero, suc, ◌+◌, ◌<◌, ◌≤◌, not, eqb, List, length, get_or, set, sym, refl, ◌∙◌, subst, ⊎_elim, eq-zero-or-pos, arith, length-set, eq-eqb, ne_eqb}
use Rattle.std.specs.Int.{from_bool}
use Rattle.base.proofs.Numbers.{nat_le_or_lt, below_or_last}
use Rattle.base.proofs.Filled.{set_here, set_there}
use Rattle.reach.specs.Marks.{Marked}
use Rattle.closed_walks.specs.Order.{past, Ordered}

-- One past the first places.
pub past_none : (places : List ℕ) → past places 0 ≡ 0
unfolding past
past_none places = refl

pub past_more : (places : List ℕ) (i : ℕ) → past places (i + 1) ≡ get_or places i 0 + 1
unfolding past
past_more places i = let e : i + 1 ≡ suc i = omega arith in rw e (omega arith)

-- One past the last place is at most the width.
pub past_most : {marks : List ℕ} {width : ℕ} {places : List ℕ} {count : ℕ} → Ordered marks width places count → (i : ℕ) → i ≤ count → past places i ≤ width
unfolding past
past_most o zero h = omega arith
past_most o (suc i) h = o.inside i (omega arith)

-- What is set at `count` is not among the first.
past_set : (places : List ℕ) (count v i : ℕ) → i ≤ count → past (set places count v) i ≡ past places i
unfolding past
past_set places count v zero h = refl
past_set places count v (suc i) h = rw (set_there places count i v (λ e. omega arith)) refl

past_last : (places : List ℕ) (count v : ℕ) → count < length places → past (set places count v) (suc count) ≡ suc v
unfolding past
past_last places count v h = rw (set_here places count v h) refl

module _ {marks : List ℕ} {j : ℕ} {places : List ℕ} {count : ℕ} (o : Ordered marks j places count) (b : j < 32) where
  there : (i : ℕ) → i < count → get_or (set places count j) i 0 ≡ get_or places i 0
  there i h = set_there places count i j (λ e. omega arith)

  here : (i : ℕ) → i ≡ count → get_or (set places count j) i 0 ≡ j
  here i e = subst (λ k. get_or (set places count j) k 0 ≡ j) (sym e) (set_here places count j (omega (arith, o.length_is, o.few)))

  -- The next variable is not marked: its place will be taken by another.
  pub order_kept : get_or marks j 0 ≡ 0 → Ordered marks (j + 1) (set places count j) count
  order_kept z = record {
    length_is = length-set places count j ∙ o.length_is;
    few = omega (arith, o.few);
    inside = λ i h. rw (there i h) (omega (arith, o.inside i h));
    marked = λ i h. rw (there i h) (o.marked i h);
    ascending = λ i h. rw (there i h, past_set places count j i (omega arith)) (o.ascending i h);
    between = λ i k h p q. o.between i k h (rw (past_set places count j i (omega arith)) at p) (rw (there i h) at q);
    after = λ k p q m. ⊎_elim
        (λ l. o.after k (rw (past_set places count j count (omega arith)) at p) l m)
        (λ e. omega (arith, rw e at m))
        (below_or_last k j q);
  }

  -- It is marked.
  pub order_more : (get_or marks j 0 ≡ 0 → ⊥) → Ordered marks (j + 1) (set places count j) (count + 1)
  order_more n = record {
    length_is = length-set places count j ∙ o.length_is;
    few = omega (arith, o.few);
    inside = λ i h. ⊎_elim (λ l. rw (there i l) (omega (arith, o.inside i l))) (λ e. rw (here i e) (omega arith)) (below_or_last i count h);
    marked = λ i h. ⊎_elim (λ l. rw (there i l) (o.marked i l)) (λ e. rw (here i e) some) (below_or_last i count h);
    ascending = λ i h. ⊎_elim
        (λ l. rw (there i l, past_set places count j i (omega arith)) (o.ascending i l))
        (λ e. rw (here i e, past_set places count j i (omega arith)) (past_most o i (omega arith)))
        (below_or_last i count h);
    between = λ i k h p q. ⊎_elim
        (λ l. o.between i k l (rw (past_set places count j i (omega arith)) at p) (rw (there i l) at q))
        (λ e. o.after k (rw (past_set places count j i (omega arith), e) at p) (rw (here i e) at q))
        (below_or_last i count h);
    after = λ k p q. absurd (omega (arith, last, p));
  }
    where
      some : Marked marks j
      some = ⊎_elim (λ e. absurd (n e)) (λ h. h) (eq-zero-or-pos (get_or marks j 0))

      last : past (set places count j) (count + 1) ≡ suc j
      last = let e : count + 1 ≡ suc count = omega arith in rw e (past_last places count j (omega (arith, o.length_is, o.few)))

  -- Either, by what its mark adds to the count.
  pub order_next : {r : ℕ} → r ≡ from_bool (not (eqb (get_or marks j 0) 0)) → Ordered marks (j + 1) (set places count j) (count + r)
  order_next {r} e = ⊎_elim
      (λ (z : get_or marks j 0 ≡ 0). let q : count + r ≡ count = omega (arith, rw (eq-eqb (get_or marks j 0) 0 z) at e) in rw q (order_kept z))
      (λ (h : 0 < get_or marks j 0). let q : count + r ≡ count + 1 = omega (arith, rw (ne_eqb (get_or marks j 0) 0 (omega arith)) at e) in rw q (order_more (λ z. omega arith)))
      (eq-zero-or-pos (get_or marks j 0))

-- ---- a marked variable is in the order

-- Its place.
pub record Found (places : List ℕ) (count j : ℕ) : Type 0 where
  pub at : ℕ
  pub inside : at < count
  pub is : get_or places at 0 ≡ j

module _ {marks : List ℕ} {width : ℕ} {places : List ℕ} {count : ℕ} (o : Ordered marks width places count) (j : ℕ) (m : Marked marks j) where
  -- Looked for from the last place down.
  found_below : (k : ℕ) → k ≤ count → j < past places k → Found places count j
  unfolding past
  found_below zero h b = absurd (omega arith)
  found_below (suc k) h b = ⊎_elim
      (λ (l : get_or places k 0 ≤ j). record { at = k; inside = omega arith; is = omega arith })
      (λ (l : j < get_or places k 0). ⊎_elim
      (λ (p : past places k ≤ j). absurd (o.between k j (omega arith) p l m))
      (λ (p : j < past places k). found_below k (omega arith) p)
      (nat_le_or_lt (past places k) j))
      (nat_le_or_lt (get_or places k 0) j)

  pub found : j < width → Found places count j
  found b = ⊎_elim
      (λ (p : past places count ≤ j). absurd (o.after j p b m))
      (λ (p : j < past places count). found_below count (omega arith) p)
      (nat_le_or_lt (past places count) j)
