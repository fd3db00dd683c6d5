-- Reach along the picks of an answer: the table's arcs are those of the definition, and so are the marks of the start.
use Prim.Native.Nat.{ℕ, zero, suc, ◌+◌, ◌-◌, ◌*◌, ◌/◌, ◌%◌, ◌≤◌, ◌<◌}
use mathlib.Core.Path.{◌≡◌, refl, subst, ◌∙◌}
use mathlib.Core.Bool.{Bool, true, false, cond}
use mathlib.Core.List.{List}
use native.Mathlib.Omega.{arith}
use lib.Dec.{eqb}
use lib.ListN.{get_or}
use borrow.Author.Tests.{eqb-true, eqb-false}
use Rattle.base.specs.Filled.{Filled}
use Rattle.base.proofs.Numbers.{positive}
use Rattle.definitions.specs.Limits.{highest_n, highest_m, stride, arcs_size}
use Rattle.definitions.specs.Tropical.{Trop, Finite}
use Rattle.definitions.specs.Problem.{Problem}
use Rattle.definitions.specs.Certificate.{Reachable, Second, start_of, Leads}
use Rattle.definitions.specs.Offset.{trop_of}
use Rattle.definitions.specs.Verdict.{strategy_of}
use Rattle.definitions.proofs.Offset.{trop_fin, trop_read}
use Rattle.reach.specs.Marks.{Led, Begins, Flags, StartMarked, Anchored, Reached, ReachedBy}
use Rattle.reach.specs.Spreading.{MarksOf}
use Rattle.reach.proofs.Marks.{anchored_marked, coefficients_marked, coefficients_flags}
use Rattle.closed_walks.specs.Tables.{Picked}
use Rattle.duality.proofs.Reach.{reach_keep, reach_map}
use Rattle.grounds.specs.Tables.{row_in, RightHeld}
use Rattle.grounds.specs.Reached.{pick_arc, arc_cell}

-- A number in the table is not blank exactly when the coefficient is a number.
pub offset_finite : {k : ℕ} {x : Trop} → trop_of k ≡ x → 0 < k → Finite x
offset_finite {k} e h = subst Finite e (record { whole = _; is = trop_fin k h })

pub finite_offset : {k : ℕ} {x : Trop} → trop_of k ≡ x → Finite x → 0 < k
finite_offset {k} e f = (trop_read k (e ∙ f.is)).0

-- ---- arcs

arc_some : (right : List ℕ) (pick l : ℕ) → 0 < pick_arc right pick l → (0 < pick) × (0 < row_in right (pick - 1) l)
unfolding pick_arc
arc_some right pick l h = go (eqb pick 0) refl h
  where
    go : (b : Bool) → eqb pick 0 ≡ b → 0 < cond b 0 (row_in right (pick - 1) l) → (0 < pick) × (0 < row_in right (pick - 1) l)
    go true e k = absurd (omega arith)
    go false e k = (positive pick (eqb-false pick 0 e), k)

arc_by_lem : (right : List ℕ) (pick row l : ℕ) → pick ≡ suc row → pick_arc right pick l ≡ row_in right row l
unfolding pick_arc
arc_by_lem right pick row l e = go (eqb pick 0) refl
  where
    go : (b : Bool) → eqb pick 0 ≡ b → cond b 0 (row_in right (pick - 1) l) ≡ row_in right row l
    go true d = absurd (omega (arith, eqb-true pick 0 d))
    go false d = let q : pick - 1 ≡ row = omega arith in rw q refl

module _ {p : Problem} {right picks arcs : List ℕ} {n m : ℕ} (small : n ≤ highest_n) (few : m ≤ highest_m) (held : RightHeld p right n m) (above : Picked picks (m + 1))
    (filled : Filled (λ k v. v ≡ arc_cell right picks k) arcs_size arcs_size arcs) where
  arc_at : (j l : ℕ) → j ≤ n → l ≤ n → get_or arcs (j * stride + l) 0 ≡ pick_arc right (get_or picks j 0) l
  arc_at j l h k =
      let a : (j * stride + l) / stride ≡ j = omega arith in
      let b : (j * stride + l) % stride ≡ l = omega arith in
      filled.each (j * stride + l) (omega arith) ∙ rw (a, b) refl

  led_leads : (j l : ℕ) → Led arcs (n + 1) j l → Leads p (strategy_of picks) j l
  unfolding strategy_of
  led_leads j l d =
      let h : j ≤ n = omega (arith, d.from) in
      let k : l ≤ n = omega (arith, d.to) in
      let s = arc_some right (get_or picks j 0) l (subst (λ (v : ℕ). 0 < v) (arc_at j l h k) d.arc) in
      record {
        row = get_or picks j 0 - 1;
        picked = omega (arith, s.0);
        inside = omega (arith, held.n_is);
        right = offset_finite (held.right_is (get_or picks j 0 - 1) l (omega (arith, s.0, above.none_above j)) k) s.1;
      }

  leads_led : (j l : ℕ) → j ≤ n → Leads p (strategy_of picks) j l → Led arcs (n + 1) j l
  unfolding strategy_of
  leads_led j l h d =
      let k : l ≤ n = omega (arith, d.inside, held.n_is) in
      let r : d.row ≤ m = omega (arith, d.picked, above.none_above j) in
      record {
        from = omega arith;
        to = omega arith;
        arc = rw (arc_at j l h k, arc_by_lem right (get_or picks j 0) d.row l d.picked) (finite_offset (held.right_is d.row l r k) d.right);
      }

  -- What the table reaches is reached, and conversely.
  pub picks_reached :
      {Start : ℕ → Type 0} {begin marks : List ℕ} → StartMarked Start (n + 1) begin → Reached arcs (n + 1) begin marks
      → ReachedBy Start (Leads p (strategy_of picks)) (n + 1) marks
  picks_reached {Start} {begin} {marks} s r =
      record {
        flags = r.flags;
        marked = λ j q. let k = onto q in (omega (arith, k.1), r.marked j k.0);
        only = λ j h q. reach_map s.only led_leads (r.only j h q);
      }
    where
      onto : {j : ℕ} → Reachable Start (Leads p (strategy_of picks)) j → Reachable (Begins begin (n + 1)) (Led arcs (n + 1)) j × (j ≤ n)
      onto q = reach_keep (λ j. j ≤ n)
          (λ j b. let g = s.marked j b in (g, omega (arith, g.inside)))
          (λ j l h d. (leads_led j l h d, omega (arith, d.inside, held.n_is)))
          q

-- ---- the start

-- Marks of the start of an answer, for every problem that the table holds.
abbrev pub Starting : List ℕ → ℕ → ℕ → List ℕ → Type 0
Starting right m start begin =
    Flags begin × ((p : Problem) (n : ℕ) → n ≤ highest_n → RightHeld p right n m → StartMarked (start_of p start) (n + 1) begin)

pub starts_anchor : {right : List ℕ} {m : ℕ} (start : ℕ) {begin : List ℕ} → start ≡ 0 → Anchored begin → Starting right m start begin
unfolding start_of
starts_anchor {right} {m} start {begin} e a = rw e (a.flags, λ p n h held. anchored_marked a (omega arith))

pub starts_second :
    {right row : List ℕ} {m : ℕ} (start : ℕ) {begin : List ℕ} → (start ≡ 0 → ⊥) → Filled (λ l v. v ≡ row_in right m l) stride stride row
    → MarksOf row stride begin → Starting right m start begin
unfolding start_of
starts_second zero d f k = absurd (d refl)
starts_second {right} {row} {m} (suc start) {begin} d f k = (coefficients_flags row k, λ p n h held. marked p n h held)
  where
    marked : (p : Problem) (n : ℕ) → n ≤ highest_n → RightHeld p right n m → StartMarked (Second p) (n + 1) begin
    marked p n h held =
        record {
          flags = coefficients_flags row k;
          marked = λ j s.
              let b : j ≤ n = omega (arith, s.inside, held.n_is) in
              (coefficients_marked {width = n + 1} row k (omega arith) j).1 (omega arith, rw (f.each j (omega arith)) (finite_offset (held.right_is m j (omega arith) b) (rw held.m_is at s.right)));
          only = λ j b.
              let q = (coefficients_marked {width = n + 1} row k (omega arith) j).0 b in
              let l : j ≤ n = omega (arith, q.0) in
              record {
                inside = omega (arith, held.n_is);
                right = rw held.m_is (offset_finite (held.right_is m j (omega arith) l) (rw (f.each j (omega arith)) at q.1));
              };
        }
