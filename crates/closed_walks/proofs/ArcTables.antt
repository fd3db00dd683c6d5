-- Laws of the tables of arcs.
use Rattle.std.proofs.Common.{◌≡◌, ℕ, suc, ◌+◌, ◌*◌, ◌<◌, ◌≤◌, Bool, true, false, cond, eqb, List, length, get_or, set, sym, refl, ap, ◌∙◌, subst, add-one, arith, length-set, eq-eqb, ne_eqb, eqb-true}
use borrow.Author.Tests.{eqb-false}
use Rattle.base.specs.Numbers.{most}
use Rattle.base.specs.Filled.{FilledFrom}
use Rattle.base.proofs.Numbers.{most_zero, one_more}
use Rattle.base.proofs.Filled.{set_here, set_there}
use Rattle.closed_walks.specs.Arcs.{raised_by, lift, lifted, strict_arc, variable_arc, fall, fallen, loose_arc, row_arc, heaviest, RowArcs, Column}

-- ---- classes 1 and 3

module _ (left right : List ℕ) (m t : ℕ) where
  -- A variable that picks nothing has no arcs.
  pub variable_none : (j l : ℕ) → variable_arc left right m t 0 j l ≡ 0
  unfolding variable_arc
  variable_none j l = refl

  -- Nor has one whose left coefficient is blank.
  pub variable_blank : (i j l : ℕ) → get_or left (i * 32 + j) 0 ≡ 0 → variable_arc left right m t (suc i) j l ≡ 0
  unfolding variable_arc strict_arc
  variable_blank i j l e = rw (eq-eqb _ _ e)

  -- Any other has arcs by its row.
  pub variable_lifted : (i j l : ℕ) → (get_or left (i * 32 + j) 0 ≡ 0 → ⊥)
      → variable_arc left right m t (suc i) j l ≡ lifted (lift (get_or left (i * 32 + j) 0) (raised_by t m i)) (get_or right (i * 32 + l) 0)
  unfolding variable_arc strict_arc
  variable_lifted i j l d = rw (ne_eqb _ _ d)

-- A row filled with other words for the same entries.
filled_as : {f g : ℕ → ℕ} {base count : ℕ} {old new : List ℕ} → ((l : ℕ) → l < count → f l ≡ g l) → FilledFrom f base count old new → FilledFrom g base count old new
filled_as e h = record { same = h.same; before = h.before; cells = λ l b. h.cells l b ∙ e l b; after = h.after }

-- A variable that picks nothing.
pub fill_idle : (left right : List ℕ) (m t j : ℕ) {base count : ℕ} {old new : List ℕ} {pick : ℕ} → pick ≡ 0
    → FilledFrom (λ _. 0) base count old new → FilledFrom (variable_arc left right m t pick j) base count old new
fill_idle left right m t j e h = filled_as (λ l b. rw e (sym (variable_none left right m t j l))) h

-- Variable j by row i, the row that it picks, whose left coefficient of j is a.
module _ (left right : List ℕ) (m t : ℕ) {i pick a base count : ℕ} {old new : List ℕ} (j : ℕ) (picked : pick ≡ suc i) (lead : a ≡ get_or left (i * 32 + j) 0) where
  -- It is blank.
  pub fill_blank : a ≡ 0 → FilledFrom (λ _. 0) base count old new → FilledFrom (variable_arc left right m t pick j) base count old new
  fill_blank z h = filled_as (λ l b. rw picked (sym (variable_blank left right m t i j l (sym lead ∙ z)))) h

  -- It is whole.
  pub fill_arcs : {up : ℕ} {f : ℕ → ℕ} → (a ≡ 0 → ⊥) → up ≡ lift a (raised_by t m i) → ((l : ℕ) → l < count → get_or right (i * 32 + l) 0 ≡ f l)
      → FilledFrom (λ l. lifted up (f l)) base count old new → FilledFrom (variable_arc left right m t pick j) base count old new
  fill_arcs {up} {f} d u e h = filled_as
      (λ l b. rw (picked, u, lead) (sym (variable_lifted left right m t i j l (λ z. d (lead ∙ z)) ∙ ap (lifted (lift (get_or left (i * 32 + j) 0) (raised_by t m i))) (e l b))))
      h

-- ---- class 2

pub column_none : (f : ℕ → ℕ) (l : ℕ) (old : List ℕ) → Column f l 0 old old
column_none f l old = record { same = refl; cells = λ j h. absurd (omega arith); others = λ j l' b d. refl }

pub column_more : {f : ℕ → ℕ} {l k : ℕ} {old new : List ℕ} {v : ℕ} → Column f l k old new → l < 32 → k * 32 + l < length new
    → v ≡ most (get_or new (k * 32 + l) 0) (f k) → Column f l (k + 1) old (set new (k * 32 + l) v)
column_more {f} {l} {k} {old} {new} {v} h low b e = record {
  same = length-set new (k * 32 + l) v ∙ h.same;
  cells = one_more {P = λ j. get_or (set new (k * 32 + l) v) (j * 32 + l) 0 ≡ most (get_or old (j * 32 + l) 0) (f j)} k
      (λ j q. set_there new (k * 32 + l) (j * 32 + l) v (λ z. omega arith) ∙ h.cells j q)
      (set_here new (k * 32 + l) v b ∙ e ∙ ap (λ z. most z (f k)) (h.others k l low (λ q. absurd (omega arith))));
  others = λ j l' q d. set_there new (k * 32 + l) (j * 32 + l') v
      (λ z. d (omega arith) (omega arith)) ∙ h.others j l' q (λ p. d (omega arith));
}

module _ (left right : List ℕ) (m t : ℕ) (picks : List ℕ) where
  pub heaviest_more : (k j l : ℕ) → heaviest left right m t picks (suc k) j l
      ≡ most (heaviest left right m t picks k j l) (row_arc left right m t picks k j l)
  unfolding heaviest
  heaviest_more k j l = refl

  pub rows_none : (width : ℕ) (arcs : List ℕ) → length arcs ≡ 1024 → ((j l : ℕ) → j < width → l < width → get_or arcs (j * 32 + l) 0 ≡ 0)
      → RowArcs left right m t picks width 0 arcs
  unfolding heaviest
  rows_none width arcs e h = record { length_is = e; cells = h }

  -- A row without an arc anywhere.
  rows_same : {width k : ℕ} {arcs : List ℕ} → RowArcs left right m t picks width k arcs
      → ((j l : ℕ) → l < width → row_arc left right m t picks k j l ≡ 0) → RowArcs left right m t picks width (suc k) arcs
  rows_same {k = k} h z = record {
    length_is = h.length_is;
    cells = λ j l b c. h.cells j l b c ∙ sym (heaviest_more k j l ∙ ap (most (heaviest left right m t picks k j l)) (z j l c) ∙ most_zero _);
  }

  -- The row picks nothing.
  pub rows_idle : {width k : ℕ} {arcs : List ℕ} → RowArcs left right m t picks width k arcs → get_or picks k 0 ≡ 0
      → RowArcs left right m t picks width (k + 1) arcs
  unfolding row_arc
  rows_idle {k = k} h e = rw add-one (rows_same h (λ j l b. rw (ne_eqb (get_or picks k 0) (suc l) (λ q. omega arith))))

  -- The row picks a variable whose right coefficient is blank.
  pub rows_blank : {width k l : ℕ} {arcs : List ℕ} → RowArcs left right m t picks width k arcs → get_or picks k 0 ≡ suc l
      → get_or right (k * 32 + l) 0 ≡ 0 → RowArcs left right m t picks width (k + 1) arcs
  unfolding row_arc loose_arc
  rows_blank {k = k} {l = l} h e z = rw add-one (rows_same h (λ j l' b. none j l'))
    where
      none : (j l' : ℕ) → cond (eqb (get_or picks k 0) (suc l')) (cond (eqb (get_or right (k * 32 + l') 0) 0) 0 (fallen (fall (get_or right (k * 32 + l') 0) (raised_by t m k)) (get_or left (k * 32 + j) 0))) 0 ≡ 0
      none j l' = go (eqb (get_or picks k 0) (suc l')) refl
        where
          go : (b : Bool) → eqb (get_or picks k 0) (suc l') ≡ b → cond b (cond (eqb (get_or right (k * 32 + l') 0) 0) 0 (fallen (fall (get_or right (k * 32 + l') 0) (raised_by t m k)) (get_or left (k * 32 + j) 0))) 0 ≡ 0
          go false q = refl
          go true q =
              let d : l ≡ l' = omega (arith, eqb-true (get_or picks k 0) (suc l') q) in
              let y : get_or right (k * 32 + l') 0 ≡ 0 = rw (← d) z in
              rw (eq-eqb (get_or right (k * 32 + l') 0) 0 y)

  -- The entries by a row: to the variable that it picks, and to no other.
  row_here : (k l j : ℕ) → get_or picks k 0 ≡ suc l → (get_or right (k * 32 + l) 0 ≡ 0 → ⊥)
      → row_arc left right m t picks k j l ≡ fallen (fall (get_or right (k * 32 + l) 0) (raised_by t m k)) (get_or left (k * 32 + j) 0)
  unfolding row_arc loose_arc
  row_here k l j e z = rw (eq-eqb (get_or picks k 0) (suc l) e, ne_eqb (get_or right (k * 32 + l) 0) 0 z)

  row_there : (k l j l' : ℕ) → get_or picks k 0 ≡ suc l → (l' ≡ l → ⊥) → row_arc left right m t picks k j l' ≡ 0
  unfolding row_arc
  row_there k l j l' e d = rw (ne_eqb (get_or picks k 0) (suc l') (λ q. d (omega arith)))

  -- The row's arcs go to the variable that it picks.
  pub rows_column : {width k l : ℕ} {arcs new : List ℕ} → width ≤ 32 → RowArcs left right m t picks width k arcs → get_or picks k 0 ≡ suc l → l < width
      → (get_or right (k * 32 + l) 0 ≡ 0 → ⊥) → {down : ℕ} → down ≡ fall (get_or right (k * 32 + l) 0) (raised_by t m k)
      → Column (λ j. fallen down (get_or left (k * 32 + j) 0)) l width arcs new
      → RowArcs left right m t picks width (k + 1) new
  rows_column {width} {k} {l} {arcs} {new} w h e b z {down} d' c = rw add-one record {
    length_is = c.same ∙ h.length_is;
    cells = λ j l' q r. cell j l' q r (eqb l' l) refl;
  }
    where
      cell : (j l' : ℕ) → j < width → l' < width → (s : Bool) → eqb l' l ≡ s → get_or new (j * 32 + l') 0 ≡ heaviest left right m t picks (suc k) j l'
      cell j l' q r true s =
          let d : l' ≡ l = eqb-true l' l s in
          subst (λ (i : ℕ). get_or new (j * 32 + i) 0 ≡ heaviest left right m t picks (suc k) j i) (sym d)
          (c.cells j q ∙ sym (heaviest_more k j l ∙ cc (row_here k l j e z, h.cells j l q b, ap (λ x. fallen x (get_or left (k * 32 + j) 0)) d')))
      cell j l' q r false s =
          let d : l' ≡ l → ⊥ = eqb-false l' l s in
          c.others j l' (omega arith) (λ _. d) ∙ h.cells j l' q r ∙ sym (heaviest_more k j l' ∙ ap (most (heaviest left right m t picks k j l')) (row_there k l j l' e d) ∙ most_zero _)
