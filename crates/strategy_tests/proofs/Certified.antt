-- What the tests on a table of arcs say of a strategy. The table shows the strategy's arcs, scaled; reach follows the
-- table, document 01's `Leads` one coefficient alone, and the two agree once all reached picks count. Written once for
-- strategies of variables and of rows, from any start.
use Prim.Native.Nat.{ℕ, suc, ◌+◌, ◌*◌, ◌≤◌, ◌<◌}
use mathlib.Core.Path.{◌≡◌, ap, sym, subst, ◌∙◌}
use mathlib.Core.Bool.{Bool, true, false}
use mathlib.Core.List.{List}
use mathlib.Core.Logic.{⊎_elim}
use native.Mathlib.Omega.{arith}
use native.Mathlib.Nat.{eq-zero-or-pos}
use lib.ListN.{get_or}
use lib.IntN.{ℤ, pos, sub_ℕ, neg_ℤ, ◌+ℤ◌}
use lib.Signed.{◌≤ℤ◌, ◌<ℤ◌}
use borrow.Author.Tests.{eq-eqb, ne_eqb}
use Rattle.base.specs.Decides.{Decides}
use Rattle.base.proofs.Decides.{said_no}
use Rattle.definitions.specs.Tropical.{Trop, fin}
use Rattle.definitions.specs.Certificate.{Reachable, Walk, stop, step, Cycle}
use Rattle.definitions.proofs.Whole.{up, down, whole, subℕ_read, plus_read, neg_read}
use Rattle.definitions.proofs.Tropical.{fin_injective, bot_not_fin}
use Rattle.duality.proofs.Reach.{reach_keep, reach_map, circuit}
use Rattle.duality.proofs.Cycles.{circuits_good}
use Rattle.duality.proofs.Longest.{entries_end}
use Rattle.duality.specs.Gains.{Entry}
use Rattle.reach.specs.Marks.{Marked, Led, Begins, StartMarked, Reached}
use Rattle.closed_walks.specs.Gains.{arc_zero, weight_of, matrix, Tested}
use Rattle.closed_walks.proofs.ClosedWalks.{weight_none, weight_some}

-- ---- weights of the table

-- A number in the table that stands for z is z + 2³¹,
pub weight_read : (k : ℕ) {z : ℤ} → weight_of k ≡ fin z → (0 < k) × (up z + arc_zero ≡ k + down z)
weight_read k {z} e = ⊎_elim
    (λ (b : k ≡ 0). absurd (bot_not_fin (sym weight_none ∙ (rw b at e))))
    (λ (h : 0 < k). (h, subst (λ (y : ℤ). up y + arc_zero ≡ k + down y) (fin_injective (sym (weight_some k h) ∙ e)) (subℕ_read k arc_zero)))
    (eq-zero-or-pos k)

-- and z + 2³¹ stands for z.
pub weight_show : (k : ℕ) (z : ℤ) → 0 < k → up z + arc_zero ≡ k + down z → weight_of k ≡ fin z
weight_show k z h e =
    let r : sub_ℕ k arc_zero ≡ z = omega (whole, subℕ_read k arc_zero) in
    weight_some k h ∙ ap fin r

-- ---- scales

-- What a walk of n arcs and weight w weighs in the table, and which weights are good: those of at most 0 there, and their sums.
pub record Scale (s : ℕ → ℤ → ℤ) (Good : ℤ → Type 0) : Type 0 where
  pub nought : s 0 (pos 0) ≡ pos 0
  pub more : (n : ℕ) (w v : ℤ) → s (suc n) (w +ℤ v) ≡ s 1 w +ℤ s n v
  pub good : (n : ℕ) (w : ℤ) → 0 < n → s n w ≤ℤ pos 0 → Good w
  pub bad : (n : ℕ) (w : ℤ) → n ≤ 32 → pos 0 <ℤ s n w → Good w → ⊥
  pub sums : (u v : ℤ) → Good u → Good v → Good (u +ℤ v)

-- Below zero: 32 w + n.
unfoldable pub strict : ℕ → ℤ → ℤ
strict n w = sub_ℕ (32 * up w + n) (32 * down w)

pub strict_read : (n : ℕ) (w : ℤ) → up (strict n w) + 32 * down w ≡ (32 * up w + n) + down (strict n w)
unfolding strict
strict_read n w = subℕ_read (32 * up w + n) (32 * down w)

pub strict_scale : Scale strict (λ w. w <ℤ pos 0)
strict_scale = record {
  nought = omega (whole, strict_read 0 (pos 0));
  more = λ n w v. omega (whole, plus_read w v, strict_read (suc n) (w +ℤ v), strict_read 1 w, strict_read n v, plus_read (strict 1 w) (strict n v));
  good = λ n w h k. omega (whole, strict_read n w);
  bad = λ n w h k g. omega (whole, strict_read n w);
  sums = λ u v h k. omega (whole, h, k, plus_read u v);
}

-- Zero or more: −w.
unfoldable pub loose : ℕ → ℤ → ℤ
loose n w = neg_ℤ w

pub loose_read : (n : ℕ) (w : ℤ) → up (loose n w) + up w ≡ down (loose n w) + down w
unfolding loose
loose_read n w = neg_read w

pub loose_scale : Scale loose (λ w. pos 0 ≤ℤ w)
loose_scale = record {
  nought = omega (whole, loose_read 0 (pos 0));
  more = λ n w v. omega (whole, plus_read w v, loose_read (suc n) (w +ℤ v), loose_read 1 w, loose_read n v, plus_read (loose 1 w) (loose n v));
  good = λ n w h k. omega (whole, loose_read n w);
  bad = λ n w h k g. omega (whole, loose_read n w);
  sums = λ u v h k. omega (whole, h, k, plus_read u v);
}

-- ---- a table that shows a strategy

-- An entry of at least v.
pub record Heavier (x : Trop) (v : ℤ) : Type 0 where
  pub weight : ℤ
  pub is : x ≡ fin weight
  pub heavy : v ≤ℤ weight

-- An arc of the strategy, which the entry x shows.
pub record Behind (A : ℕ → ℕ → ℤ → Type 0) (s : ℕ → ℤ → ℤ) (j l : ℕ) (x : Trop) : Type 0 where
  pub weight : ℤ
  pub arc : A j l weight
  pub is : x ≡ fin (s 1 weight)

-- An arc of some weight.
pub record SomeArc (A : ℕ → ℕ → ℤ → Type 0) (j l : ℕ) : Type 0 where
  pub weight : ℤ
  pub arc : A j l weight

-- The table shows the arcs A, which lead; a variable that counts has an arc to each that it leads to.
pub record ShownArcs (arcs : List ℕ) (N : ℕ) (Leads : ℕ → ℕ → Type 0) (A : ℕ → ℕ → ℤ → Type 0) (Counts : ℕ → Type 0) (s : ℕ → ℤ → ℤ) : Type 0 where
  pub to : (j l : ℕ) (w : ℤ) → j < N → A j l w → (l < N) × Heavier (weight_of (get_or arcs (j * 32 + l) 0)) (s 1 w)
  pub from : (j l : ℕ) → j < N → l < N → 0 < get_or arcs (j * 32 + l) 0 → Behind A s j l (weight_of (get_or arcs (j * 32 + l) 0))
  pub leads : (j l : ℕ) (w : ℤ) → A j l w → Leads j l
  pub counted : (j l : ℕ) → j < N → Counts j → Leads j l → SomeArc A j l

-- A walk of the table that weighs at least v; a walk of the strategy that weighs v in the table.
record Above (M : ℕ → ℕ → Trop) (N j k n : ℕ) (v : ℤ) : Type 0 where
  weight : ℤ
  heavy : v ≤ℤ weight
  walk : Walk (Entry M N) j k n weight

record Under (A : ℕ → ℕ → ℤ → Type 0) (s : ℕ → ℤ → ℤ) (j k n : ℕ) (v : ℤ) : Type 0 where
  weight : ℤ
  is : v ≡ s n weight
  walk : Walk A j k n weight

-- The table's own arcs: from a marked variable, as the table has them.
matrix_marked : (arcs marks : List ℕ) (j l : ℕ) → Marked marks j → matrix arcs marks j l ≡ weight_of (get_or arcs (j * 32 + l) 0)
unfolding matrix
matrix_marked arcs marks j l h = rw (ne_eqb (get_or marks j 0) 0 (omega arith))

matrix_some : (arcs marks : List ℕ) (j l : ℕ) {w : ℤ} → matrix arcs marks j l ≡ fin w → Marked marks j
unfolding matrix
matrix_some arcs marks j l {w} e =
    ⊎_elim (λ (z : get_or marks j 0 ≡ 0). absurd (bot_not_fin (rw (eq-eqb (get_or marks j 0) 0 z) at e))) (λ h. h) (eq-zero-or-pos (get_or marks j 0))

-- A closed walk of at least one arc starts from a marked variable.
first_marked : (arcs marks : List ℕ) {N j k n : ℕ} {w : ℤ} → 0 < n → Walk (Entry (matrix arcs marks) N) j k n w → Marked marks j
first_marked arcs marks h stop = absurd (omega arith)
first_marked arcs marks h (step {j = j} {l = l} a p) = matrix_some arcs marks j l a.entry

module _ {Start : ℕ → Type 0} {arcs : List ℕ} {N : ℕ} {Leads : ℕ → ℕ → Type 0} {A : ℕ → ℕ → ℤ → Type 0} {Counts : ℕ → Type 0} {s : ℕ → ℤ → ℤ} {Good : ℤ → Type 0}
    (shows : ShownArcs arcs N Leads A Counts s) (scale : Scale s Good) (small : N ≤ 32)
    {begin marks : List ℕ} (starts : StartMarked Start N begin) (reached : Reached arcs N begin marks) where
  -- An arc of the strategy leads in the table.
  led : (j l : ℕ) (w : ℤ) → j < N → A j l w → Led arcs N j l
  led j l w h a =
      let t = shows.to j l w h a in
      record { from = h; to = t.0; arc = (weight_read (get_or arcs (j * 32 + l) 0) t.1.is).0 }

  -- Where marked variables count, what the strategy reaches, the table reaches.
  table_reaches : ((j : ℕ) → j < N → Marked marks j → Counts j) → {j : ℕ} → Reachable Start Leads j
      → (j < N) × Reachable (Begins begin N) (Led arcs N) j
  table_reaches counts r =
      (reach_keep {L' = Led arcs N} (λ j. (j < N) × Reachable (Begins begin N) (Led arcs N) j)
      (λ j h. let b = starts.marked j h in (b, (b.inside, Reachable.start b)))
      (λ j l h a.
      let q = shows.counted j l h.0 (counts j h.0 (reached.marked j h.1)) a in
      let d = led j l q.weight h.0 q.arc in
      (d, (d.to, Reachable.onward h.1 d)))
      r).1

  -- What the table reaches, the strategy does.
  strategy_reaches : {j : ℕ} → Reachable (Begins begin N) (Led arcs N) j → Reachable Start Leads j
  strategy_reaches r = reach_map starts.only
      (λ j l d. let q = shows.from j l d.from d.to d.arc in shows.leads j l q.weight q.arc) r

  -- A walk of the strategy from a reached variable, in the table.
  walk_above : {j k n : ℕ} {w : ℤ} → j < N → Reachable (Begins begin N) (Led arcs N) j → Walk A j k n w → Above (matrix arcs marks) N j k n (s n w)
  walk_above h r stop = record { weight = pos 0; heavy = omega (whole, scale.nought); walk = stop }
  walk_above h r (step {j = j} {l = l} {n = n} {w = w} {v = v} a p) =
      let t = shows.to j l w h a in
      let d = led j l w h a in
      let q = walk_above d.to (Reachable.onward r d) p in
      record {
        weight = t.1.weight +ℤ q.weight;
        heavy = omega (whole, scale.more n w v, plus_read (s 1 w) (s n v), plus_read t.1.weight q.weight, t.1.heavy, q.heavy);
        walk = step (record { inside = t.0; entry = matrix_marked arcs marks j l (reached.marked j r) ∙ t.1.is }) q.walk;
      }

  -- A walk of the table, in the strategy.
  walk_under : {j k n : ℕ} {v : ℤ} → j < N → Walk (Entry (matrix arcs marks) N) j k n v → Under A s j k n v
  walk_under h stop = record { weight = pos 0; is = sym scale.nought; walk = stop }
  walk_under h (step {j = j} {l = l} {n = n} {w = w} {v = v} a p) =
      let e : weight_of (get_or arcs (j * 32 + l) 0) ≡ fin w = sym (matrix_marked arcs marks j l (matrix_some arcs marks j l a.entry)) ∙ a.entry in
      let b = shows.from j l h a.inside (weight_read (get_or arcs (j * 32 + l) 0) e).0 in
      let q = walk_under a.inside p in
      let d : w ≡ s 1 b.weight = fin_injective (sym e ∙ b.is) in
      record {
        weight = b.weight +ℤ q.weight;
        is = omega (whole, scale.more n b.weight q.weight, d, q.is, plus_read w v, plus_read (s 1 b.weight) (s n q.weight));
        walk = step b.arc q.walk;
      }

  -- Both tests passed: the picks count, and every reached cycle is good.
  certified_yes : {c g : Bool} → Decides ((j : ℕ) → j < N → Marked marks j → Counts j) c → Tested arcs marks N g → c ≡ true → g ≡ true
      → ((j : ℕ) → Reachable Start Leads j → Counts j) × ((w : ℤ) → Cycle Start Leads A w → Good w)
  certified_yes counts tested c g = (
    λ j r. let q = table_reaches (counts.yes c) r in counts.yes c j q.0 (reached.marked j q.1),
    λ w k. let q = table_reaches (counts.yes c) k.reachable in
        let b = walk_above q.0 q.1 k.walk in
        let l : b.weight ≤ℤ pos 0 = tested.yes g k.at (suc k.arcs) b.weight q.0 b.walk in
        scale.good (suc k.arcs) w (omega arith) (omega (whole, b.heavy)),
  )

  -- A marked variable does not count.
  uncounted : {c : Bool} → Decides ((j : ℕ) → j < N → Marked marks j → Counts j) c → c ≡ false
      → ((j : ℕ) → Reachable Start Leads j → Counts j) → ⊥
  uncounted counts c h = counts.no c (λ j b m. h j (strategy_reaches (reached.only j b m)))

  -- A closed walk is bad, so a cycle is.
  gains_bad : {g : Bool} → Tested arcs marks N g → g ≡ false → ((w : ℤ) → Cycle Start Leads A w → Good w) → ⊥
  gains_bad tested g h =
      let q = (tested.no g).gain in
      let b = entries_end q.some q.loop in
      let u = walk_under b q.loop in
      scale.bad q.arcs u.weight (omega (arith, q.most)) (rw (← u.is) q.gains)
      (circuits_good shows.leads scale.sums h u.weight (circuit (strategy_reaches (reached.only q.at b (first_marked arcs marks q.some q.loop))) q.some u.walk))

  -- The first test alone, and both.
  pub certified_not : {c : Bool} → Decides ((j : ℕ) → j < N → Marked marks j → Counts j) c → c ≡ false
      → Decides (((j : ℕ) → Reachable Start Leads j → Counts j) × ((w : ℤ) → Cycle Start Leads A w → Good w)) false
  certified_not counts c = said_no (λ h. uncounted counts c h.0)

  pub certified_both : {c g : Bool} → Decides ((j : ℕ) → j < N → Marked marks j → Counts j) c → c ≡ true → Tested arcs marks N g
      → Decides (((j : ℕ) → Reachable Start Leads j → Counts j) × ((w : ℤ) → Cycle Start Leads A w → Good w)) g
  certified_both counts c tested = record { yes = λ g. certified_yes counts tested c g; no = λ g h. gains_bad tested g h.1 }
