-- The picks of a strategy of variables, as an answer shows them: they agree with the strategy wherever it reaches from
-- the start, and are 0 elsewhere.
use Prim.Native.Nat.{ℕ, suc, ◌+◌, ◌*◌, ◌/◌, ◌%◌, ◌≤◌, ◌<◌}
use mathlib.Core.Path.{◌≡◌, sym, ap₂, subst, ◌∙◌}
use mathlib.Core.Logic.{⊎_elim}
use mathlib.Core.List.{List}
use native.Mathlib.Omega.{arith}
use native.Mathlib.Nat.{eq-zero-or-pos}
use native.Mathlib.Numerals.{add-one}
use lib.ListN.{get_or}
use borrow.Author.Tests.{lt-ltb, le-ltb}
use Rattle.base.proofs.Numbers.{nat_le_or_lt, positive}
use Rattle.definitions.specs.Tropical.{Finite}
use Rattle.definitions.specs.Problem.{Problem}
use Rattle.definitions.specs.Certificate.{Strategy, Reachable, start, onward, Leads}
use Rattle.definitions.specs.Offset.{trop_of}
use Rattle.definitions.specs.Solved.{IdleVariables}
use Rattle.duality.specs.Picks.{picks_from, AgreeReached}
use Rattle.duality.proofs.Reach.{reach_keep, reach_map}
use Rattle.policy_iteration.specs.Tables.{pick_of}
use Rattle.look.specs.Frames.{Held}
use Rattle.look.proofs.SecondList.{number_finite}
use Rattle.reach.specs.Marks.{Marked, Led, StartMarked, Reached}
use Rattle.reach.proofs.Marks.{reached_from, from_reached}
use Rattle.pick_tables.specs.Shown.{shown_pick, arc_by, VariablePicks}
use Rattle.pick_tables.proofs.Shown.{shown_unmarked, shown_picked, shown_none, arc_picked, arc_none}

-- ---- offset numbers

-- A number that is not 0 stands for a whole number, and back.
pub finite_offset : (k : ℕ) → (k ≡ 0 → ⊥) → Finite (trop_of k)
finite_offset k d = (number_finite k).1 (positive k d)

pub offset_finite : (k : ℕ) → Finite (trop_of k) → k ≡ 0 → ⊥
offset_finite k f e = omega (arith, (number_finite k).0 f)

-- ---- the record's form of a strategy

pub full_picked : (τ : Strategy) (many j : ℕ) → τ j < many → picks_from τ many j ≡ suc (τ j)
unfolding picks_from
full_picked τ many j h = rw (lt-ltb (τ j) many h)

full_none : (τ : Strategy) (many j : ℕ) → many ≤ τ j → picks_from τ many j ≡ 0
unfolding picks_from
full_none τ many j h = rw (le-ltb (τ j) many h)

-- A pick of that form is a row.
pub full_read : (τ : Strategy) (many j i : ℕ) → picks_from τ many j ≡ suc i → (τ j ≡ i) × (i < many)
full_read τ many j i e = ⊎_elim
    (λ (h : many ≤ τ j). absurd (omega (arith, full_none τ many j h)))
    (λ (h : τ j < many). omega (arith, full_picked τ many j h))
    (nat_le_or_lt many (τ j))

-- Where the mark is not 0 the pick is shown.
pub shown_full : (picks : List ℕ) (many mark j : ℕ) → (mark ≡ 0 → ⊥) → shown_pick many mark (get_or picks j 0) ≡ picks_from (pick_of picks) many j
shown_full picks many mark j d = ⊎_elim
    (λ (h : many ≤ get_or picks j 0). sym (shown_none many mark (get_or picks j 0) d h) ∙ sym (full_none (pick_of picks) many j h))
    (λ (h : get_or picks j 0 < many). sym (shown_picked many mark (get_or picks j 0) d h) ∙ add-one (get_or picks j 0) ∙ sym (full_picked (pick_of picks) many j h))
    (nat_le_or_lt many (get_or picks j 0))

pub shown_most : (many mark pick : ℕ) → shown_pick many mark pick ≤ many
shown_most many mark pick = ⊎_elim
    (λ (e : mark ≡ 0). omega (arith, shown_unmarked many mark pick e))
    (λ (h : 0 < mark). ⊎_elim
    (λ (k : many ≤ pick). omega (arith, shown_none many mark pick (λ e. omega arith) k))
    (λ (k : pick < many). omega (arith, shown_picked many mark pick (λ e. omega arith) k))
    (nat_le_or_lt many pick))
    (eq-zero-or-pos mark)

-- ---- marks

-- Where a table's arcs are a strategy's leads, the marks of what they reach are those of what it reaches.
module _
    {Start : ℕ → Type 0} {L : ℕ → ℕ → Type 0} {n : ℕ} {arcs begin marks : List ℕ} (starts : StartMarked Start (n + 1) begin) (reached : Reached arcs (n + 1) begin marks)
    (arc_leads : (j l : ℕ) → Led arcs (n + 1) j l → L j l) (leads_arc : (j l : ℕ) → j ≤ n → L j l → Led arcs (n + 1) j l × (l ≤ n))
  where
    pub marked_reached : {j : ℕ} → j < n + 1 → Marked marks j → Reachable Start L j
    marked_reached h m = reach_map (λ j e. e) arc_leads (reached_from starts reached _ h m)

    pub reached_marked : {j : ℕ} → Reachable Start L j → (j < n + 1) × Marked marks j
    reached_marked r = from_reached starts reached _ (reach_keep (λ j. j ≤ n) (λ j h. (h, omega (arith, (starts.marked j h).inside))) leads_arc r).0

-- What is reached by leads that are others' wherever they reach is reached by those.
pub reach_along : {Start : ℕ → Type 0} {L L' : ℕ → ℕ → Type 0} → ((j l : ℕ) → Reachable Start L j → L j l → L' j l) → {j : ℕ} → Reachable Start L j → Reachable Start L' j
reach_along {Start} {L} {L'} f r = (reach_keep {L' = L'} (Reachable Start L) (λ j e. (e, start e)) (λ j l q a. (f j l q a, onward q a)) r).0

-- ---- the picks

module _ {Start : ℕ → Type 0} {p : Problem} {n m : ℕ} {left right picks begin out : List ℕ} (held : Held p n m left right) (small : n ≤ 31)
    (starts : StartMarked Start (n + 1) begin) (v : VariablePicks right picks begin (n + 1) (m + 1) out) where
  abbrev full : Strategy
  full = picks_from (pick_of picks) (m + 1)

  arcs_at : (j l : ℕ) → j < n + 1 → l < 32 → get_or v.arcs (j * 32 + l) 0 ≡ arc_by right (m + 1) (get_or picks j 0) l
  arcs_at j l h k =
      let e : (j * 32 + l) / 32 ≡ j = omega arith in
      let d : (j * 32 + l) % 32 ≡ l = omega arith in
      v.arcs_are.each (j * 32 + l) (omega arith) ∙ ap₂ (λ (i z : ℕ). arc_by right (m + 1) (get_or picks i 0) z) e d

  -- An arc of the table is a lead of the strategy,
  arc_leads : (j l : ℕ) → Led v.arcs (n + 1) j l → Leads p full j l
  arc_leads j l a =
      let e = arcs_at j l a.from (omega (arith, a.to)) in
      ⊎_elim
      (λ (h : m + 1 ≤ get_or picks j 0). absurd (omega (arith, a.arc, e, arc_none right (m + 1) (get_or picks j 0) l h)))
      (λ (h : get_or picks j 0 < m + 1).
      record {
        row = get_or picks j 0;
        picked = full_picked (pick_of picks) (m + 1) j h;
        inside = omega (arith, a.to, held.n_is);
        right = subst Finite (held.right_is (get_or picks j 0) l (omega arith) (omega (arith, a.to))) (finite_offset _ (λ z. omega (arith, a.arc, e, arc_picked right (m + 1) (get_or picks j 0) l h)));
      })
      (nat_le_or_lt (m + 1) (get_or picks j 0))

  -- and back.
  leads_arc : (j l : ℕ) → j ≤ n → Leads p full j l → Led v.arcs (n + 1) j l × (l ≤ n)
  leads_arc j l h a =
      let r = full_read (pick_of picks) (m + 1) j a.row a.picked in
      let i : l ≤ n = omega (arith, a.inside, held.n_is) in
      let f = offset_finite _ (subst Finite (sym (held.right_is a.row l (omega arith) i)) a.right) in
      let e = rw r.0 at (arcs_at j l (omega arith) (omega arith)) in
      (record { from = omega arith; to = omega arith; arc = positive _ (λ z. f (arc_picked right (m + 1) a.row l r.1 ∙ sym e ∙ z)) }, i)

  -- They agree wherever the strategy reaches.
  pub variables_agree : AgreeReached Start p (picks_from (pick_of picks) (m + 1)) (pick_of out)
  variables_agree j r =
      let q = reached_marked starts v.reached arc_leads leads_arc r in
      v.shown.each j q.0 ∙ shown_full picks (m + 1) (get_or v.marks j 0) j (λ z. omega (arith, q.1))

  -- Elsewhere they are 0.
  pub variables_idle : IdleVariables Start p (pick_of out)
  variables_idle j d = ⊎_elim (λ (h : n + 1 ≤ j). v.shown.rest j h) inside (nat_le_or_lt (n + 1) j)
    where
      lead : (j l : ℕ) → Reachable Start (Leads p full) j → Leads p full j l → Leads p (pick_of out) j l
      lead j l r a = record { row = a.row; picked = variables_agree j r ∙ a.picked; inside = a.inside; right = a.right }

      inside : j < n + 1 → get_or out j 0 ≡ 0
      inside h = ⊎_elim
          (λ (z : get_or v.marks j 0 ≡ 0). v.shown.each j h ∙ sym (shown_unmarked (m + 1) (get_or v.marks j 0) (get_or picks j 0) z))
          (λ (k : 0 < get_or v.marks j 0). absurd (d (reach_along lead (marked_reached starts v.reached arc_leads leads_arc h k))))
          (eq-zero-or-pos (get_or v.marks j 0))

-- None is above the number of rows.
pub variables_most : {right picks begin out : List ℕ} {width rows : ℕ} → VariablePicks right picks begin width rows out → (j : ℕ) → get_or out j 0 ≤ rows
variables_most {picks = picks} {width = width} {rows} v j = ⊎_elim
    (λ (h : width ≤ j). omega (arith, v.shown.rest j h))
    (λ (h : j < width). rw (v.shown.each j h) (shown_most rows (get_or v.marks j 0) (get_or picks j 0)))
    (nat_le_or_lt width j)
