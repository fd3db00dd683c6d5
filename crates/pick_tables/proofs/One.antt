-- The picks of an answer are one: from the same tables, the same strategy and the same start.
use Prim.Native.Nat.{ℕ, ◌+◌, ◌*◌, ◌/◌, ◌%◌, ◌≤◌, ◌<◌}
use mathlib.Core.Path.{◌≡◌, refl, sym, ap, subst, ◌∙◌}
use mathlib.Core.Logic.{◌↔◌, ⊎_elim}
use mathlib.Core.List.{List}
use native.Mathlib.Omega.{arith}
use native.Mathlib.Nat.{eq-zero-or-pos}
use lib.ListN.{get_or}
use borrow.Author.Tests.{ne_eqb}
use Rattle.base.proofs.Numbers.{nat_le_or_lt, positive}
use Rattle.base.proofs.Lists.{filled_one}
use Rattle.reach.specs.Marks.{Led}
use Rattle.reach.proofs.One.{SameBegin, reached_one}
use Rattle.pick_tables.specs.Shown.{shown_pick, arc_by, VariablePicks, RowArcs, UsedBy, UsedIs, RowPicks, FirstHighest, InducedRows}

-- ---- classes 1 and 3

pub variable_picks_one : {right picks picks' begin begin' out out' : List ℕ} {width rows : ℕ} → VariablePicks right picks begin width rows out
    → VariablePicks right picks' begin' width rows out' → ((j : ℕ) → j < width → get_or picks j 0 ≡ get_or picks' j 0) → SameBegin width begin begin' → out ≡ out'
unfolding arc_by
variable_picks_one {right} {picks} {picks'} {width = width} {rows} v w same b =
    filled_one (λ k x y h p q. p ∙ shown k h ∙ sym q) v.shown w.shown
  where
    arcs_one : v.arcs ≡ w.arcs
    arcs_one = filled_one (λ k x y h p q. p ∙ ap (λ (i : ℕ). arc_by right rows i (k % 32)) (same (k / 32) (omega arith)) ∙ sym q) v.arcs_are w.arcs_are

    led : (j l : ℕ) → Led v.arcs width j l ↔ Led w.arcs width j l
    led j l = (λ a. subst (λ (z : List ℕ). Led z width j l) arcs_one a, λ a. subst (λ (z : List ℕ). Led z width j l) (sym arcs_one) a)

    shown : (k : ℕ) → k < width → shown_pick rows (get_or v.marks k 0) (get_or picks k 0) ≡ shown_pick rows (get_or w.marks k 0) (get_or picks' k 0)
    shown k h = rw (same k h, reached_one v.reached w.reached b led k h)

-- ---- class 2

module _ {left picks begin begin' out out' : List ℕ} {width rows : ℕ} (v : RowPicks left picks begin width rows out)
    (w : RowPicks left picks begin' width rows out') (b : SameBegin width begin begin') where
  led_to : {a c : List ℕ} → RowArcs left picks rows (width * 32) a → RowArcs left picks rows (width * 32) c → width ≤ 32 → (j l : ℕ) → Led a width j l → Led c width j l
  led_to {a} {c} p q few j l h =
      let at : j * 32 + l < width * 32 = omega (arith, h.from, h.to) in
      record {
        from = h.from;
        to = h.to;
        arc = positive _ (λ e. (q.each _ at).none e ((p.each _ at).some (λ e. omega (arith, h.arc))));
      }

  marks_one : width ≤ 32 → (j : ℕ) → j < width → get_or v.marks j 0 ≡ get_or w.marks j 0
  marks_one few = reached_one v.reached w.reached b (λ j l. (led_to v.arcs_are w.arcs_are few j l, led_to w.arcs_are v.arcs_are few j l))

  used_to : {a c : List ℕ} → ((j : ℕ) → j < width → get_or a j 0 ≡ get_or c j 0) → (i : ℕ) → UsedBy left a width i → UsedBy left c width i
  used_to same i u = record { at = u.at; inside = u.inside; marked = rw (same u.at u.inside) at u.marked; left_is = u.left_is }

  pub row_picks_one : width ≤ 32 → out ≡ out'
  unfolding shown_pick
  row_picks_one few = filled_one (λ i x y h p q. p.is ∙ same i p.mark q.mark p.used q.used ∙ sym q.is) v.shown w.shown
    where
      same : (i a c : ℕ) → UsedIs left v.marks width i a → UsedIs left w.marks width i c → shown_pick width a (get_or picks i 0) ≡ shown_pick width c (get_or picks i 0)
      same i a c p q = ⊎_elim
          (λ (e : a ≡ 0). ⊎_elim
          (λ (f : c ≡ 0). rw (e, f) refl)
          (λ (f : 0 < c). absurd (p.none e (used_to (λ j h. sym (marks_one few j h)) i (q.some (λ z. omega arith)))))
          (eq-zero-or-pos c))
          (λ (e : 0 < a). ⊎_elim
          (λ (f : c ≡ 0). absurd (q.none f (used_to (marks_one few) i (p.some (λ z. omega arith)))))
          (λ (f : 0 < c). rw (ne_eqb a 0 (λ z. omega arith), ne_eqb c 0 (λ z. omega arith)) refl)
          (eq-zero-or-pos c))
          (eq-zero-or-pos a)

-- ---- the strategy of rows that a point induces

best_one : {table x : List ℕ} {row width a b : ℕ} → FirstHighest table row x width a → FirstHighest table row x width b → b ≤ a
best_one {width = width} {a} {b} p q = ⊎_elim
    (λ (h : b ≤ a). h)
    (λ (h : a < b). ⊎_elim
    (λ (k : width ≤ b). absurd (omega (arith, p.above (omega (arith, (q.none k).0)), (q.none k).1 a (omega (arith, (q.none k).0)))))
    (λ (k : b < width). absurd (omega (arith, q.first k a h, p.most (omega arith) b k)))
    (nat_le_or_lt width b))
    (nat_le_or_lt b a)

pub induced_one : {right x picks picks' : List ℕ} {width n : ℕ} → InducedRows right x width n picks → InducedRows right x width n picks' → picks ≡ picks'
induced_one p q = filled_one (λ i v w h a b. omega (arith, best_one a.highest b.highest, best_one b.highest a.highest)) p q
