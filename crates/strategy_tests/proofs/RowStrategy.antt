-- The table of a strategy of rows shows its arcs: class 2.
use Prim.Native.Nat.{ℕ, zero, suc, ◌+◌, ◌*◌, ◌-◌, ◌≤◌, ◌<◌}
use mathlib.Core.Path.{◌≡◌, refl, ap, ◌∙◌}
use mathlib.Core.Bool.{Bool, true, false, cond}
use mathlib.Core.List.{List}
use mathlib.Core.Logic.{⊎_elim}
use native.Mathlib.Omega.{arith}
use native.Mathlib.Nat.{eq-zero-or-pos}
use lib.Dec.{eqb}
use lib.ListN.{get_or}
use lib.IntN.{ℤ, sub_ℕ, ◌+ℤ◌, ◌-ℤ◌}
use borrow.Author.Tests.{eq-eqb, ne_eqb, eqb-true}
use Rattle.base.specs.Decides.{Decides}
use Rattle.base.proofs.Numbers.{most_one, most_left, most_right, below_or_last}
use Rattle.base.proofs.Decides.{decides_as}
use Rattle.definitions.specs.Limits.{signed_half, lead_limit, span_limit}
use Rattle.definitions.specs.Tropical.{fin, Finite}
use Rattle.definitions.specs.Offset.{trop_of}
use Rattle.definitions.specs.Problem.{Problem}
use Rattle.definitions.specs.Certificate.{Reachable, raise, ArcBy, RowLeads, RowArc, RowHasPick, RowPicksCount, AtLeastZero}
use Rattle.definitions.specs.Verdict.{strategy_of}
use Rattle.definitions.proofs.Whole.{whole, subℕ_read, plus_read, minus_read}
use Rattle.definitions.proofs.Offset.{trop_read}
use Rattle.records.specs.Decoded.{Near, InTables}
use Rattle.reach.specs.Marks.{Marked, StartMarked, Reached}
use Rattle.closed_walks.specs.Gains.{arc_zero, arc_most, weight_of, Table, Tested}
use Rattle.closed_walks.specs.Tables.{Sized, Picked, Trial}
use Rattle.closed_walks.specs.Arcs.{raised_by, least_lead, fall, fallen, loose_arc, row_arc, heaviest, RowArcs}
use Rattle.strategy_tests.specs.Counts.{RowsCount}
use Rattle.closed_walks.proofs.ArcTables.{heaviest_more}
use Rattle.closed_walks.proofs.ClosedWalks.{weight_some}
use Rattle.strategy_tests.proofs.Certified.{weight_show, weight_read, loose, loose_read, loose_scale, Heavier, Behind, ShownArcs, certified_not, certified_both}
use Rattle.strategy_tests.proofs.Variables.{finite_trop, trop_some, raise_is, raise_near}

-- ---- one entry

-- Where left and right coefficient are whole, the entry is the number of −w.
loose_entry : (a r b : ℕ) → 0 < a → 0 < b → loose_arc a r b ≡ (arc_zero + signed_half + least_lead) - (b + r) + (a - least_lead)
unfolding loose_arc fallen fall
loose_entry a r b h k = rw (ne_eqb a 0 (omega arith), ne_eqb b 0 (omega arith))

loose_blank : (a r b : ℕ) → 0 < loose_arc a r b → (0 < a) × (0 < b)
unfolding loose_arc fallen
loose_blank a r b h = ⊎_elim
    (λ (z : b ≡ 0). absurd (let q : 0 < cond (eqb b 0) 0 (cond (eqb a 0) 0 (fall b r + (a - least_lead))) = h in omega (arith, rw (eq-eqb b 0 z) at q)))
    (λ (z : 0 < b). ⊎_elim
    (λ (y : a ≡ 0). absurd (let q : 0 < cond (eqb b 0) 0 (cond (eqb a 0) 0 (fall b r + (a - least_lead))) = h in omega (arith, rw (ne_eqb b 0 (omega arith), eq-eqb a 0 y) at q)))
    (λ (y : 0 < a). (y, z))
    (eq-zero-or-pos a))
    (eq-zero-or-pos b)

loose_weight : (a r b : ℕ) {x y z w : ℤ} → Near lead_limit a → Near lead_limit b → Near (suc span_limit) r
    → trop_of a ≡ fin x → trop_of b ≡ fin y → trop_of r ≡ fin z → w ≡ (y -ℤ x) +ℤ z → weight_of (loose_arc a r b) ≡ fin (loose 1 w)
loose_weight a r b {x} {y} {z} {w} na nb nr ea eb er e =
    let ra = trop_read a ea in
    let rb = trop_read b eb in
    let rr = trop_read r er in
    let q : loose_arc a r b ≡ (arc_zero + signed_half + least_lead) - (b + r) + (a - least_lead) = loose_entry a r b ra.0 rb.0 in
    weight_show (loose_arc a r b) (loose 1 w) (omega (arith, nb.hi, nr.hi))
    (omega (whole, loose_read 1 w, e, minus_read y x, plus_read (y -ℤ x) z, na.lo ra.0, nb.hi, nr.hi))

loose_small : (a r b : ℕ) → Near lead_limit a → Near lead_limit b → Near (suc span_limit) r → 0 < r → loose_arc a r b ≤ arc_zero + arc_most
loose_small a r b na nb nr hr = ⊎_elim (λ (z : loose_arc a r b ≡ 0). omega arith) (λ (h : 0 < loose_arc a r b).
    let s = loose_blank a r b h in
    let q : loose_arc a r b ≡ (arc_zero + signed_half + least_lead) - (b + r) + (a - least_lead) = loose_entry a r b s.0 s.1 in
    omega (arith, na.hi, nb.lo s.1, nr.lo hr)) (eq-zero-or-pos (loose_arc a r b))

-- ---- the heaviest over the rows

module _ (left right : List ℕ) (m t : ℕ) (picks : List ℕ) where
  -- The entry by a row that picks l.
  row_picks : (i j l : ℕ) → get_or picks i 0 ≡ suc l
      → row_arc left right m t picks i j l ≡ loose_arc (get_or left (i * 32 + j) 0) (raised_by t m i) (get_or right (i * 32 + l) 0)
  unfolding row_arc
  row_picks i j l e = rw (eq-eqb (get_or picks i 0) (suc l) e)

  -- An entry above 0 is by a row that picks l.
  row_some : (i j l : ℕ) → 0 < row_arc left right m t picks i j l → get_or picks i 0 ≡ suc l
  unfolding row_arc
  row_some i j l h = go (eqb (get_or picks i 0) (suc l)) refl h
    where
      go : (b : Bool) → eqb (get_or picks i 0) (suc l) ≡ b → 0 < cond b (loose_arc (get_or left (i * 32 + j) 0) (raised_by t m i) (get_or right (i * 32 + l) 0)) 0
          → get_or picks i 0 ≡ suc l
      go true e h = eqb-true _ _ e
      go false e h = absurd (omega arith)

  -- The heaviest is at least each,
  heaviest_above : (k i j l : ℕ) → i < k → row_arc left right m t picks i j l ≤ heaviest left right m t picks k j l
  heaviest_above zero i j l h = absurd (omega arith)
  heaviest_above (suc k) i j l h = rw heaviest_more (⊎_elim
      (λ (b : i < k). omega (arith, heaviest_above k i j l b, most_left (heaviest left right m t picks k j l) (row_arc left right m t picks k j l)))
      (λ (e : i ≡ k). rw e (most_right (heaviest left right m t picks k j l) (row_arc left right m t picks k j l)))
      (below_or_last i k (omega arith)))

  -- and one of them where it is not 0.
  record Heaviest (k j l : ℕ) : Type 0 where
    row : ℕ
    low : row < k
    is : heaviest left right m t picks k j l ≡ row_arc left right m t picks row j l

  heaviest_at : (k j l : ℕ) → 0 < heaviest left right m t picks k j l → Heaviest k j l
  unfolding heaviest
  heaviest_at zero j l h = absurd (omega arith)
  heaviest_at (suc k) j l h = ⊎_elim
      (λ q. record { row = k; low = omega arith; is = q.0 })
      (λ q. let r = heaviest_at k j l (omega arith) in record { row = r.row; low = omega (arith, r.low); is = q.0 ∙ r.is })
      (most_one (heaviest left right m t picks k j l) (row_arc left right m t picks k j l))

-- ---- the table

module _ {left right : List ℕ} {n m t : ℕ} {picks arcs : List ℕ} (sized : Sized left right n m) (trial : Trial t) (picked : Picked picks (n + 1))
    (table : RowArcs left right m t picks (n + 1) (m + 1) arcs) where
  raise_some : (i : ℕ) → 0 < raised_by t m i
  unfolding raised_by
  raise_some i = go (eqb i m)
    where
      go : (b : Bool) → 0 < cond b t signed_half
      go true = trial.some
      go false = omega arith

  pub rows_table : Table arcs (n + 1)
  rows_table = record {
    width_most = omega (arith, sized.n_most);
    length_is = table.length_is;
    cells = λ j l h k. rw (table.cells j l h k) (small j l);
  }
    where
      small : (j l : ℕ) → heaviest left right m t picks (m + 1) j l ≤ arc_zero + arc_most
      small j l = ⊎_elim (λ (z : heaviest left right m t picks (m + 1) j l ≡ 0). omega arith)
          (λ (h : 0 < heaviest left right m t picks (m + 1) j l).
          let r = heaviest_at left right m t picks (m + 1) j l h in
          let e : row_arc left right m t picks r.row j l ≡ loose_arc (get_or left (r.row * 32 + j) 0) (raised_by t m r.row) (get_or right (r.row * 32 + l) 0) =
          row_picks left right m t picks r.row j l (row_some left right m t picks r.row j l (rw (← r.is) h)) in
          rw (r.is, e) (loose_small _ _ _ (sized.left_near (r.row * 32 + j)) (sized.right_near (r.row * 32 + l)) (raise_near m r.row trial) (raise_some r.row)))
          (eq-zero-or-pos (heaviest left right m t picks (m + 1) j l))

  module _ {p : Problem} {z : ℤ} (holds : InTables p n m left right) (trial-is : trop_of t ≡ fin z) where
    target_inside : (i l : ℕ) → strategy_of picks i ≡ suc l → l < n + 1
    unfolding strategy_of
    target_inside i l e = omega (arith, picked.none_above i)

    -- The weight of an arc by row i.
    weight_by_lem : (i j l : ℕ) {w : ℤ} → i ≤ p.m → j < n + 1 → l < n + 1 → strategy_of picks i ≡ suc l → ArcBy p z i j l w
        → weight_of (row_arc left right m t picks i j l) ≡ fin (loose 1 w)
    unfolding strategy_of
    weight_by_lem i j l h k k' e b = rw (row_picks left right m t picks i j l e)
        (loose_weight (get_or left (i * 32 + j) 0) (raised_by t m i) (get_or right (i * 32 + l) 0)
        (sized.left_near (i * 32 + j)) (sized.right_near (i * 32 + l)) (raise_near m i trial)
        (holds.decoded.left_is i j h (omega (arith, holds.n_is)) ∙ b.left_is)
        (holds.decoded.right_is i l h (omega (arith, holds.n_is)) ∙ b.right_is)
        (raise_is p m i t holds.m_is trial-is) b.weighs)

    -- The table has an entry at least as heavy as each arc.
    heavier : (j l : ℕ) (w : ℤ) → j < n + 1 → RowArc p (strategy_of picks) z j l w
        → (l < n + 1) × Heavier (weight_of (get_or arcs (j * 32 + l) 0)) (loose 1 w)
    heavier j l w h a =
        let k = target_inside a.row l a.picked in
        let r = weight_read (row_arc left right m t picks a.row j l) (weight_by_lem a.row j l a.inside h k a.picked a.by) in
        let c = table.cells j l h k in
        let q = heaviest_above left right m t picks (m + 1) a.row j l (omega (arith, a.inside, holds.m_is)) in (
          k,
          record {
            weight = sub_ℕ (get_or arcs (j * 32 + l) 0) arc_zero;
            is = weight_some (get_or arcs (j * 32 + l) 0) (omega arith);
            heavy = omega (whole, subℕ_read (get_or arcs (j * 32 + l) 0) arc_zero);
          },
        )

    -- An entry above 0 is one by a row that picks l, with whole coefficients.
    behind : (j l : ℕ) → j < n + 1 → l < n + 1 → 0 < get_or arcs (j * 32 + l) 0
        → Behind (RowArc p (strategy_of picks) z) loose j l (weight_of (get_or arcs (j * 32 + l) 0))
    unfolding strategy_of
    behind j l h k q =
        let c = table.cells j l h k in
        let r = heaviest_at left right m t picks (m + 1) j l (omega arith) in
        let i : ℕ = r.row in
        let e : get_or picks r.row 0 ≡ suc l = row_some left right m t picks r.row j l (omega (arith, r.is)) in
        let d : get_or arcs (j * 32 + l) 0 ≡ row_arc left right m t picks r.row j l = c ∙ r.is in
        let f : row_arc left right m t picks r.row j l ≡ loose_arc (get_or left (r.row * 32 + j) 0) (raised_by t m r.row) (get_or right (r.row * 32 + l) 0) =
        row_picks left right m t picks r.row j l e in
        let s = loose_blank (get_or left (r.row * 32 + j) 0) (raised_by t m r.row) (get_or right (r.row * 32 + l) 0) (omega arith) in
        let low : r.row ≤ p.m = omega (arith, r.low, holds.m_is) in
        let a = finite_trop (get_or left (r.row * 32 + j) 0) (holds.decoded.left_is r.row j low (omega (arith, holds.n_is))) s.0 in
        let b = finite_trop (get_or right (r.row * 32 + l) 0) (holds.decoded.right_is r.row l low (omega (arith, holds.n_is))) s.1 in
        let by : ArcBy p z r.row j l ((b.whole -ℤ a.whole) +ℤ raise p z r.row) =
        record { a = a.whole; b = b.whole; left_is = a.is; right_is = b.is; weighs = refl } in
        record {
          weight = (b.whole -ℤ a.whole) +ℤ raise p z r.row;
          arc = record { row = r.row; inside = low; picked = e; by = by };
          is = ap weight_of d ∙ weight_by_lem r.row j l low h k e by;
        }

    -- A variable counts if every row in use of it picks.
    abbrev pub RowsStand : ℕ → Type 0
    RowsStand j = (i : ℕ) → i ≤ p.m → Finite (p.left i j) → RowHasPick p (strategy_of picks) i

    -- The table shows the strategy.
    pub rows_shown : ShownArcs arcs (n + 1) (RowLeads p (strategy_of picks)) (RowArc p (strategy_of picks) z) RowsStand loose
    rows_shown = record {
      to = heavier;
      from = behind;
      leads = λ j l w a. record { row = a.row; inside = a.inside; left = record { whole = a.by.a; is = a.by.left_is }; picked = a.picked };
      counted = λ j l h c a.
          let q = c a.row a.inside a.left in
          let e : q.variable ≡ l = omega (arith, q.picked, a.picked) in
          let f : Finite (p.right a.row l) = rw (← e) q.right in
          record {
            weight = (f.whole -ℤ a.left.whole) +ℤ raise p z a.row;
            arc = record {
              row = a.row;
              inside = a.inside;
              picked = a.picked;
              by = record { a = a.left.whole; b = f.whole; left_is = a.left.is; right_is = f.is; weighs = refl };
            };
          };
    }

    -- Rows that stand on the tables stand.
    pub rows_counted : (marks : List ℕ) {r : Bool} → Decides (RowsCount left right picks marks (n + 1) (m + 1)) r
        → Decides ((j : ℕ) → j < n + 1 → Marked marks j → RowsStand j) r
    unfolding strategy_of
    rows_counted marks d = decides_as
        (λ f j h k i b l.
        let c = f i (omega (arith, holds.m_is)) j h k (trop_some (get_or left (i * 32 + j) 0) (holds.decoded.left_is i j b (omega (arith, holds.n_is))) l) in
        record {
          variable = c.variable;
          picked = c.picked;
          right = finite_trop (get_or right (i * 32 + c.variable) 0) (holds.decoded.right_is i c.variable b (omega (arith, target_inside i c.variable c.picked, holds.n_is))) c.some;
        })
        (λ f i b j h k l.
        let low : i ≤ p.m = omega (arith, holds.m_is) in
        let c = f j h k i low (finite_trop (get_or left (i * 32 + j) 0) (holds.decoded.left_is i j low (omega (arith, holds.n_is))) l) in
        record {
          variable = c.variable;
          picked = c.picked;
          some = trop_some (get_or right (i * 32 + c.variable) 0) (holds.decoded.right_is i c.variable low (omega (arith, target_inside i c.variable c.picked, holds.n_is))) c.right;
        })
        d

    -- The verdict of the two tests, in the words of the definitions.
    in_words : {Start : ℕ → Type 0} {r : Bool}
        → Decides (((j : ℕ) → Reachable Start (RowLeads p (strategy_of picks)) j → RowsStand j) × AtLeastZero Start p (strategy_of picks) z) r
        → Decides (RowPicksCount Start p (strategy_of picks) × AtLeastZero Start p (strategy_of picks) z) r
    in_words d = decides_as (λ f. (λ i j h r l. f.0 j r i h l, f.1)) (λ f. (λ j r i h l. f.0 i j h r l, f.1)) d

    pub rows_not : {Start : ℕ → Type 0} {begin marks : List ℕ} {c : Bool} → StartMarked Start (n + 1) begin → Reached arcs (n + 1) begin marks
        → Decides (RowsCount left right picks marks (n + 1) (m + 1)) c → c ≡ false
        → Decides (RowPicksCount Start p (strategy_of picks) × AtLeastZero Start p (strategy_of picks) z) false
    rows_not {marks = marks} a r d c = in_words (certified_not rows_shown loose_scale (omega (arith, sized.n_most)) a r (rows_counted marks d) c)

    pub rows_both : {Start : ℕ → Type 0} {begin marks : List ℕ} {c g : Bool} → StartMarked Start (n + 1) begin → Reached arcs (n + 1) begin marks
        → Decides (RowsCount left right picks marks (n + 1) (m + 1)) c → c ≡ true → Tested arcs marks (n + 1) g
        → Decides (RowPicksCount Start p (strategy_of picks) × AtLeastZero Start p (strategy_of picks) z) g
    rows_both {marks = marks} a r d c g = in_words (certified_both rows_shown loose_scale (omega (arith, sized.n_most)) a r (rows_counted marks d) c g)
