-- The picks of a strategy of rows, as an answer shows them: they agree with the strategy at every row in use from the
-- start, and are 0 elsewhere.
use Prim.Native.Nat.{ℕ, suc, ◌+◌, ◌*◌, ◌/◌, ◌%◌, ◌≤◌, ◌<◌}
use mathlib.Core.Path.{◌≡◌, sym, ap, subst, subst₂, ◌∙◌}
use mathlib.Core.Logic.{⊎_elim}
use mathlib.Core.List.{List}
use native.Mathlib.Omega.{arith}
use native.Mathlib.Nat.{eq-zero-or-pos}
use lib.ListN.{get_or}
use Rattle.base.proofs.Numbers.{nat_le_or_lt, positive}
use Rattle.definitions.specs.Tropical.{Finite}
use Rattle.definitions.specs.Problem.{Problem}
use Rattle.definitions.specs.Certificate.{Strategy, Reachable, RowLeads}
use Rattle.definitions.specs.Solved.{IdleRows}
use Rattle.duality.specs.Picks.{picks_from, AgreeInUse}
use Rattle.policy_iteration.specs.Tables.{pick_of}
use Rattle.look.specs.Frames.{Held}
use Rattle.reach.specs.Marks.{Led, StartMarked}
use Rattle.pick_tables.specs.Shown.{RowArcIs, UsedBy, RowShown, RowPicks}
use Rattle.pick_tables.proofs.Shown.{shown_unmarked}
use Rattle.class_answers.proofs.Variables.{finite_offset, offset_finite, full_picked, full_read, shown_full, shown_most, marked_reached, reached_marked, reach_along}

module _ {Start : ℕ → Type 0} {p : Problem} {n m : ℕ} {left right picks begin out : List ℕ} (held : Held p n m left right) (small : n ≤ 31)
    (starts : StartMarked Start (n + 1) begin) (v : RowPicks left picks begin (n + 1) (m + 1) out) where
  abbrev full : Strategy
  full = picks_from (pick_of picks) (n + 1)

  -- A left coefficient that is not 0 is the problem's, and back.
  left_finite : {i j : ℕ} → i < m + 1 → j < n + 1 → (get_or left (i * 32 + j) 0 ≡ 0 → ⊥) → Finite (p.left i j)
  left_finite {i} {j} h k d = subst Finite (held.left_is i j (omega arith) (omega arith)) (finite_offset _ d)

  finite_left : {i j : ℕ} → i < m + 1 → j < n + 1 → Finite (p.left i j) → get_or left (i * 32 + j) 0 ≡ 0 → ⊥
  finite_left {i} {j} h k f = offset_finite _ (subst Finite (sym (held.left_is i j (omega arith) (omega arith))) f)

  arcs_at : (j l : ℕ) → j < n + 1 → l < 32 → RowArcIs left picks (m + 1) j l (get_or v.arcs (j * 32 + l) 0)
  arcs_at j l h k =
      let e : (j * 32 + l) / 32 ≡ j = omega arith in
      let d : (j * 32 + l) % 32 ≡ l = omega arith in
      subst₂ (λ (i z : ℕ). RowArcIs left picks (m + 1) i z (get_or v.arcs (j * 32 + l) 0)) e d (v.arcs_are.each (j * 32 + l) (omega arith))

  -- An arc of the table is a lead of the strategy,
  arc_leads : (j l : ℕ) → Led v.arcs (n + 1) j l → RowLeads p full j l
  arc_leads j l a =
      let t = (arcs_at j l a.from (omega (arith, a.to))).some (λ e. omega (arith, a.arc, e)) in
      record {
        row = t.row;
        inside = omega (arith, t.inside, held.m_is);
        left = left_finite t.inside a.from t.left_is;
        picked = full_picked (pick_of picks) (n + 1) t.row (omega (arith, t.picked, a.to)) ∙ ap suc t.picked;
      }

  -- and back.
  leads_arc : (j l : ℕ) → j ≤ n → RowLeads p full j l → Led v.arcs (n + 1) j l × (l ≤ n)
  leads_arc j l h a =
      let r = full_read (pick_of picks) (n + 1) a.row l a.picked in
      let i : a.row < m + 1 = omega (arith, a.inside, held.m_is) in
      let arc = positive _ (λ z. (arcs_at j l (omega arith) (omega arith)).none z (record { row = a.row; inside = i; picked = r.0; left_is = finite_left i (omega arith) a.left })) in
      (record { from = omega arith; to = r.1; arc = arc }, omega arith)

  -- They agree at every row in use.
  pub rows_agree : AgreeInUse Start p (picks_from (pick_of picks) (n + 1)) (pick_of out)
  rows_agree i j h r f =
      let q = reached_marked starts v.reached arc_leads leads_arc r in
      let k : i < m + 1 = omega (arith, held.m_is) in
      let s = v.shown.each i k in
      s.is ∙ shown_full picks (n + 1) s.mark i (λ z. s.used.none z (record { at = j; inside = q.0; marked = q.1; left_is = finite_left k q.0 f }))

  -- Elsewhere they are 0.
  pub rows_idle : IdleRows Start p (pick_of out)
  rows_idle i d = ⊎_elim (λ (h : m + 1 ≤ i). v.shown.rest i h) (λ (h : i < m + 1). inside h (v.shown.each i h)) (nat_le_or_lt (m + 1) i)
    where
      lead : (j l : ℕ) → Reachable Start (RowLeads p full) j → RowLeads p full j l → RowLeads p (pick_of out) j l
      lead j l r a = record { row = a.row; inside = a.inside; left = a.left; picked = rows_agree a.row j a.inside r a.left ∙ a.picked }

      in_use : i < m + 1 → UsedBy left v.marks (n + 1) i → ⊥
      in_use h u = d u.at (reach_along lead (marked_reached starts v.reached arc_leads leads_arc u.inside u.marked)) (left_finite h u.inside u.left_is)

      inside : i < m + 1 → RowShown left v.marks (n + 1) i (get_or picks i 0) (get_or out i 0) → get_or out i 0 ≡ 0
      inside h s = ⊎_elim
          (λ (z : s.mark ≡ 0). s.is ∙ sym (shown_unmarked (n + 1) s.mark (get_or picks i 0) z))
          (λ (k : 0 < s.mark). absurd (in_use h (s.used.some (λ e. omega arith))))
          (eq-zero-or-pos s.mark)

-- None is above the number of variables.
pub rows_most : {left picks begin out : List ℕ} {width rows : ℕ} → RowPicks left picks begin width rows out → (i : ℕ) → get_or out i 0 ≤ width
rows_most {picks = picks} {width = width} {rows} v i = ⊎_elim
    (λ (h : rows ≤ i). omega (arith, v.shown.rest i h))
    (λ (h : i < rows). rw (v.shown.each i h).is (shown_most width (v.shown.each i h).mark (get_or picks i 0)))
    (nat_le_or_lt rows i)
