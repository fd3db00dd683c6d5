-- The table of a strategy of variables shows its arcs: classes 1 and 3.
use Prim.Native.Nat.{ℕ, zero, suc, ◌+◌, ◌*◌, ◌-◌, ◌≤◌, ◌<◌}
use mathlib.Core.Path.{◌≡◌, refl, ap, sym, ◌∙◌}
use mathlib.Core.Bool.{Bool, true, false, cond}
use mathlib.Core.List.{List}
use mathlib.Core.Logic.{⊎_elim}
use native.Mathlib.Omega.{arith}
use native.Mathlib.Nat.{eq-zero-or-pos}
use lib.Dec.{eqb}
use lib.ListN.{get_or}
use lib.IntN.{ℤ, pos, sub_ℕ, ◌+ℤ◌, ◌-ℤ◌}
use lib.Signed.{≤ℤ_refl}
use borrow.Author.Tests.{eq-eqb, ne_eqb}
use Rattle.base.specs.Decides.{Decides}
use Rattle.base.proofs.Decides.{decides_as}
use Rattle.definitions.specs.Limits.{signed_half, lead_limit, span_limit}
use Rattle.definitions.specs.Tropical.{Trop, fin, Finite}
use Rattle.definitions.specs.Offset.{trop_of}
use Rattle.definitions.specs.Problem.{Problem}
use Rattle.definitions.specs.Certificate.{raise, ArcBy, Leads, Arc, HasPick, PicksCount, BelowZero}
use Rattle.definitions.specs.Verdict.{strategy_of}
use Rattle.definitions.proofs.Whole.{whole, plus_read, minus_read}
use Rattle.definitions.proofs.Offset.{trop_fin, trop_read, trop_show}
use Rattle.records.specs.Decoded.{Near, InTables}
use Rattle.reach.specs.Marks.{Marked, StartMarked, Reached}
use Rattle.closed_walks.specs.Gains.{arc_zero, arc_most, weight_of, Table, Tested}
use Rattle.closed_walks.specs.Tables.{Sized, Picked, Trial}
use Rattle.closed_walks.specs.Arcs.{raised_by, least_lead, lift, lifted, strict_arc, variable_arc, VariableArcs}
use Rattle.strategy_tests.specs.Counts.{VariablesCount}
use Rattle.strategy_tests.proofs.Certified.{weight_show, strict, strict_read, strict_scale, Behind, ShownArcs, certified_not, certified_both}

-- ---- coefficients

-- What an offset number above 0 stands for.
pub finite_trop : (k : ℕ) {x : Trop} → trop_of k ≡ x → 0 < k → Finite x
finite_trop k e h = record { whole = sub_ℕ k signed_half; is = sym e ∙ trop_fin k h }

pub trop_some : (k : ℕ) {x : Trop} → trop_of k ≡ x → Finite x → 0 < k
trop_some k e f = (trop_read k (e ∙ f.is)).0

-- A raise, as an offset number and as a whole number.
pub raise_is : (p : Problem) (m i t : ℕ) {z : ℤ} → p.m ≡ m → trop_of t ≡ fin z → trop_of (raised_by t m i) ≡ fin (raise p z i)
unfolding raised_by raise
raise_is p m i t {z} e h = rw e (go (eqb i m))
  where
    go : (b : Bool) → trop_of (cond b t signed_half) ≡ fin (cond b z (pos 0))
    go true = h
    go false = trop_show signed_half (pos 0) (omega arith) (omega arith)

-- A raise in range.
pub raise_near : (m i : ℕ) {t : ℕ} → Trial t → Near (suc span_limit) (raised_by t m i)
unfolding raised_by
raise_near m i {t} h = go (eqb i m)
  where
    go : (b : Bool) → Near (suc span_limit) (cond b t signed_half)
    go true = h.near
    go false = record { hi = omega arith; lo = λ _. omega arith }

-- ---- one entry

-- Where left and right coefficient are whole, the entry is the number of 32 w + 1.
strict_entry : (a r b : ℕ) → 0 < a → 0 < b → strict_arc a r b ≡ (arc_zero + 32 * r + 1) - 32 * (a + lead_limit) + 32 * (b - least_lead)
unfolding strict_arc lifted lift
strict_entry a r b h k = rw (ne_eqb a 0 (omega arith), ne_eqb b 0 (omega arith))

strict_blank : (a r b : ℕ) → 0 < strict_arc a r b → (0 < a) × (0 < b)
unfolding strict_arc lifted
strict_blank a r b h = ⊎_elim
    (λ (z : a ≡ 0). absurd (let q : 0 < cond (eqb a 0) 0 (cond (eqb b 0) 0 (lift a r + 32 * (b - least_lead))) = h in omega (arith, rw (eq-eqb a 0 z) at q)))
    (λ (z : 0 < a). ⊎_elim
    (λ (y : b ≡ 0). absurd (let q : 0 < cond (eqb a 0) 0 (cond (eqb b 0) 0 (lift a r + 32 * (b - least_lead))) = h in omega (arith, rw (ne_eqb a 0 (omega arith), eq-eqb b 0 y) at q)))
    (λ (y : 0 < b). (z, y))
    (eq-zero-or-pos b))
    (eq-zero-or-pos a)

strict_weight : (a r b : ℕ) {x y z w : ℤ} → Near lead_limit a → Near lead_limit b → Near (suc span_limit) r
    → trop_of a ≡ fin x → trop_of b ≡ fin y → trop_of r ≡ fin z → w ≡ (y -ℤ x) +ℤ z → weight_of (strict_arc a r b) ≡ fin (strict 1 w)
strict_weight a r b {x} {y} {z} {w} na nb nr ea eb er e =
    let ra = trop_read a ea in
    let rb = trop_read b eb in
    let rr = trop_read r er in
    let q : strict_arc a r b ≡ (arc_zero + 32 * r + 1) - 32 * (a + lead_limit) + 32 * (b - least_lead) = strict_entry a r b ra.0 rb.0 in
    weight_show (strict_arc a r b) (strict 1 w) (omega (arith, na.hi, nr.lo rr.0))
    (omega (whole, strict_read 1 w, e, minus_read y x, plus_read (y -ℤ x) z, na.hi, nb.lo rb.0, nr.lo rr.0))

strict_small : (a r b : ℕ) → Near lead_limit a → Near lead_limit b → Near (suc span_limit) r → strict_arc a r b ≤ arc_zero + arc_most
strict_small a r b na nb nr = ⊎_elim (λ (z : strict_arc a r b ≡ 0). omega arith) (λ (h : 0 < strict_arc a r b).
    let s = strict_blank a r b h in
    let q : strict_arc a r b ≡ (arc_zero + 32 * r + 1) - 32 * (a + lead_limit) + 32 * (b - least_lead) = strict_entry a r b s.0 s.1 in
    omega (arith, na.lo s.0, nb.hi, nr.hi)) (eq-zero-or-pos (strict_arc a r b))

-- ---- the table

module _ {left right : List ℕ} {n m t : ℕ} {picks arcs : List ℕ} (sized : Sized left right n m) (trial : Trial t) (picked : Picked picks (m + 1))
    (table : VariableArcs left right m t picks (n + 1) (n + 1) arcs) where
  pub variables_table : Table arcs (n + 1)
  unfolding variable_arc
  variables_table = record {
    width_most = omega (arith, sized.n_most);
    length_is = table.length_is;
    cells = λ j l h k. rw (table.cells j l h k) (small j l (get_or picks j 0));
  }
    where
      small : (j l pick : ℕ) → variable_arc left right m t pick j l ≤ arc_zero + arc_most
      small j l zero = omega arith
      small j l (suc i) = strict_small _ _ _ (sized.left_near (i * 32 + j)) (sized.right_near (i * 32 + l)) (raise_near m i trial)

  module _ {p : Problem} {z : ℤ} (holds : InTables p n m left right) (trial-is : trop_of t ≡ fin z) where
    row_inside : (j i : ℕ) → strategy_of picks j ≡ suc i → i ≤ p.m
    unfolding strategy_of
    row_inside j i e = omega (arith, picked.none_above j, holds.m_is)

    cell_by : (j l i : ℕ) → j < n + 1 → l < n + 1 → strategy_of picks j ≡ suc i
        → get_or arcs (j * 32 + l) 0 ≡ strict_arc (get_or left (i * 32 + j) 0) (raised_by t m i) (get_or right (i * 32 + l) 0)
    unfolding strategy_of variable_arc
    cell_by j l i h k e = table.cells j l h k ∙ ap (λ pick. variable_arc left right m t pick j l) e

    -- The weight of an arc by row i.
    weight_by_lem : (j l i : ℕ) {w : ℤ} → j < n + 1 → l < n + 1 → strategy_of picks j ≡ suc i → ArcBy p z i j l w
        → weight_of (get_or arcs (j * 32 + l) 0) ≡ fin (strict 1 w)
    weight_by_lem j l i h k e b = rw (cell_by j l i h k e)
        (strict_weight (get_or left (i * 32 + j) 0) (raised_by t m i) (get_or right (i * 32 + l) 0)
        (sized.left_near (i * 32 + j)) (sized.right_near (i * 32 + l)) (raise_near m i trial)
        (holds.decoded.left_is i j (row_inside j i e) (omega (arith, holds.n_is)) ∙ b.left_is)
        (holds.decoded.right_is i l (row_inside j i e) (omega (arith, holds.n_is)) ∙ b.right_is)
        (raise_is p m i t holds.m_is trial-is) b.weighs)

    -- An entry above 0 is one by the row that j picks, with whole coefficients.
    behind : (j l : ℕ) → j < n + 1 → l < n + 1 → 0 < get_or arcs (j * 32 + l) 0
        → Behind (Arc p (strategy_of picks) z) strict j l (weight_of (get_or arcs (j * 32 + l) 0))
    unfolding strategy_of variable_arc
    behind j l h k q = go (get_or picks j 0) refl (rw (table.cells j l h k) at q)
      where
        go : (pick : ℕ) → get_or picks j 0 ≡ pick → 0 < variable_arc left right m t pick j l
            → Behind (Arc p (strategy_of picks) z) strict j l (weight_of (get_or arcs (j * 32 + l) 0))
        go zero e q = absurd (omega arith)
        go (suc i) e q =
            let s = strict_blank (get_or left (i * 32 + j) 0) (raised_by t m i) (get_or right (i * 32 + l) 0) q in
            let low : i ≤ p.m = row_inside j i e in
            let a = finite_trop (get_or left (i * 32 + j) 0) (holds.decoded.left_is i j low (omega (arith, holds.n_is))) s.0 in
            let b = finite_trop (get_or right (i * 32 + l) 0) (holds.decoded.right_is i l low (omega (arith, holds.n_is))) s.1 in
            let by : ArcBy p z i j l ((b.whole -ℤ a.whole) +ℤ raise p z i) =
            record { a = a.whole; b = b.whole; left_is = a.is; right_is = b.is; weighs = refl } in
            record {
              weight = (b.whole -ℤ a.whole) +ℤ raise p z i;
              arc = record { row = i; picked = e; inside = omega (arith, holds.n_is); by = by };
              is = weight_by_lem j l i h k e by;
            }

    -- The table shows the strategy.
    pub variables_shown : ShownArcs arcs (n + 1) (Leads p (strategy_of picks)) (Arc p (strategy_of picks) z) (HasPick p (strategy_of picks)) strict
    variables_shown = record {
      to = λ j l w h a.
          let k : l < n + 1 = omega (arith, a.inside, holds.n_is) in
          (k, record { weight = strict 1 w; is = weight_by_lem j l a.row h k a.picked a.by; heavy = ≤ℤ_refl (strict 1 w) });
      from = behind;
      leads = λ j l w a. record { row = a.row; picked = a.picked; inside = a.inside; right = record { whole = a.by.b; is = a.by.right_is } };
      counted = λ j l h c a.
          let e : c.row ≡ a.row = omega (arith, c.picked, a.picked) in
          let f : Finite (p.left a.row j) = rw (← e) c.left in
          record {
            weight = (a.right.whole -ℤ f.whole) +ℤ raise p z a.row;
            arc = record {
              row = a.row;
              picked = a.picked;
              inside = a.inside;
              by = record { a = f.whole; b = a.right.whole; left_is = f.is; right_is = a.right.is; weighs = refl };
            };
          };
    }

    -- Picks that count on the tables are picks that count.
    pub variables_counted : (marks : List ℕ) {r : Bool} → Decides (VariablesCount left picks marks (n + 1)) r
        → Decides ((j : ℕ) → j < n + 1 → Marked marks j → HasPick p (strategy_of picks) j) r
    unfolding strategy_of
    variables_counted marks d = decides_as
        (λ f j h k. let c = f j h k in record {
          row = c.row;
          picked = c.picked;
          left = finite_trop (get_or left (c.row * 32 + j) 0) (holds.decoded.left_is c.row j (row_inside j c.row c.picked) (omega (arith, holds.n_is))) c.some;
        })
        (λ f j h k. let c = f j h k in record {
          row = c.row;
          picked = c.picked;
          some = trop_some (get_or left (c.row * 32 + j) 0) (holds.decoded.left_is c.row j (row_inside j c.row c.picked) (omega (arith, holds.n_is))) c.left;
        })
        d

    -- The verdict of the two tests.
    pub variables_not : {Start : ℕ → Type 0} {begin marks : List ℕ} {c : Bool} → StartMarked Start (n + 1) begin → Reached arcs (n + 1) begin marks
        → Decides (VariablesCount left picks marks (n + 1)) c → c ≡ false
        → Decides (PicksCount Start p (strategy_of picks) × BelowZero Start p (strategy_of picks) z) false
    variables_not {marks = marks} a r d c = certified_not variables_shown strict_scale (omega (arith, sized.n_most)) a r (variables_counted marks d) c

    pub variables_both : {Start : ℕ → Type 0} {begin marks : List ℕ} {c g : Bool} → StartMarked Start (n + 1) begin → Reached arcs (n + 1) begin marks
        → Decides (VariablesCount left picks marks (n + 1)) c → c ≡ true → Tested arcs marks (n + 1) g
        → Decides (PicksCount Start p (strategy_of picks) × BelowZero Start p (strategy_of picks) z) g
    variables_both {marks = marks} a r d c g = certified_both variables_shown strict_scale (omega (arith, sized.n_most)) a r (variables_counted marks d) c g
