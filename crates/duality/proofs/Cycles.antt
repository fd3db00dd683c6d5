-- Cycles and closed walks. A cycle is a closed walk. A closed walk falls apart into cycles, all of them reached, whose weights
-- add up to its own: going back along it, each new arc closes a cycle with what is left, which is taken out, or makes
-- what is left longer by a variable that it did not pass. So a property of weights that sums keep holds of every closed
-- walk where it holds of every cycle; and an arc with a walk back has a way back through distinct variables, which
-- closes a cycle that uses this arc.
use Prim.Native.Nat.{ℕ, suc, ◌+◌, ◌<◌}
use mathlib.Core.Path.{◌≡◌, refl, sym, subst}
use mathlib.Core.Logic.{◌⊎◌, inl, inr, ⊎_elim, ◌↔◌}
use native.Mathlib.Omega.{arith}
use native.Mathlib.Decide.{ℕ_discrete}
use lib.IntN.{ℤ, pos, ◌+ℤ◌, +ℤ_assoc}
use lib.Signed.{◌≤ℤ◌, ◌<ℤ◌}
use Rattle.definitions.specs.Problem.{Problem}
use Rattle.definitions.specs.Certificate.{Strategy, Reachable, onward, Walk, stop, step, Uses, Distinct, Cycle, NoCycleUses, ArcBy, Leads, Arc, BelowZero, ObjectiveUnused, RowLeads, RowArc, AtLeastZero, ObjectiveUnusedByRows}
use Rattle.definitions.proofs.Whole.{whole, plus_read}
use Rattle.duality.specs.Circuits.{Circuit, UsesObjective, ObjectiveArc, RowObjectiveArc}
use Rattle.duality.proofs.Walks.{walk_append}
use Rattle.duality.proofs.Objective.{picked_kind, row_picked_kind}

-- The walk passes variable x: one of its arcs starts there.
abbrev pub Passes : {A : ℕ → ℕ → ℤ → Type 0} (x : ℕ) {j k n : ℕ} {w : ℤ} → Walk A j k n w → Type 0
Passes x p = Uses (λ i l w a. i ≡ x) p

-- Whether it does is decided.
passes? : {A : ℕ → ℕ → ℤ → Type 0} (x : ℕ) {j k n : ℕ} {w : ℤ} (p : Walk A j k n w) → Passes x p ⊎ (Passes x p → ⊥)
unfolding Uses
passes? x stop = inr (λ u. u)
passes? x (step {j = j} a p) = go (ℕ_discrete j x) (passes? x p)
  where
    go : Dec (j ≡ x) → Passes x p ⊎ (Passes x p → ⊥) → ((j ≡ x) ⊎ Passes x p) ⊎ ((j ≡ x) ⊎ Passes x p → ⊥)
    go (yes e) r = inl (inl e)
    go (no d) (inl u) = inl (inr u)
    go (no d) (inr f) = inr (⊎_elim d f)

-- A way from j to k: a walk through distinct variables, none of them k.
record Way (A : ℕ → ℕ → ℤ → Type 0) (j k : ℕ) (w : ℤ) : Type 0 where
  arcs : ℕ
  walk : Walk A j k arcs w
  distinct : Distinct walk
  ends : Passes k walk → ⊥

-- The way of no arcs.
none_yet : {A : ℕ → ℕ → ℤ → Type 0} {j : ℕ} → Way A j j (pos 0)
unfolding Uses Distinct
none_yet = record { arcs = 0; walk = stop; distinct = tt; ends = λ u. u }

-- ---- a way cut at a variable that it passes

-- The part up to x, which passes nothing new, and the part from there.
record Cut {A : ℕ → ℕ → ℤ → Type 0} (x : ℕ) {j k n : ℕ} {w : ℤ} (p : Walk A j k n w) : Type 0 where
  u : ℤ
  v : ℤ
  before : Way A j x u
  after : Way A x k v
  inside : (y : ℕ) → Passes y before.walk → Passes y p
  weights : u +ℤ v ≡ w

-- Cut where it starts.
cut_here : {A : ℕ → ℕ → ℤ → Type 0} {j k n : ℕ} {w : ℤ} (p : Walk A j k n w) → Distinct p → (Passes k p → ⊥) → Cut j p
unfolding Uses Distinct none_yet
cut_here {n = n} {w = w} p d e = record {
  u = pos 0;
  v = w;
  before = none_yet;
  after = record { arcs = n; walk = p; distinct = d; ends = e };
  inside = λ y f. absurd f;
  weights = omega (whole, plus_read (pos 0) w);
}

-- An arc put in front, from a variable that is not passed.
cut_on : {A : ℕ → ℕ → ℤ → Type 0} (x : ℕ) {j l k n : ℕ} {w v : ℤ} (a : A j l w) (p : Walk A l k n v) → (Passes j p → ⊥)
    → Passes x p → Cut x p → Cut x (step {w = w} a p)
unfolding Uses Distinct
cut_on x {j} {w = w} {v = v} a p new u c = record {
  u = w +ℤ c.u;
  v = c.v;
  before = record {
    arcs = suc c.before.arcs;
    walk = step a c.before.walk;
    distinct = (λ f. new (c.inside j f), c.before.distinct);
    ends = ⊎_elim (λ (e : j ≡ x). new (subst (λ (y : ℕ). Passes y p) (sym e) u)) c.before.ends;
  };
  after = c.after;
  inside = λ y. ⊎_elim inl (λ f. inr (c.inside y f));
  weights = omega (whole, plus_read w c.u, plus_read (w +ℤ c.u) c.v, plus_read c.u c.v, plus_read w v, c.weights);
}

-- Cut at x, wherever that stands.
cut : {A : ℕ → ℕ → ℤ → Type 0} (x : ℕ) {j k n : ℕ} {w : ℤ} (p : Walk A j k n w) → Distinct p → (Passes k p → ⊥) → Passes x p → Cut x p
unfolding Uses Distinct
cut x stop d e u = absurd u
cut x (step a p) d e (inl q) = subst (λ (y : ℕ). Cut y (step a p)) q (cut_here (step a p) d e)
cut x (step a p) d e (inr u) = cut_on x a p d.0 u (cut x p d.1 (λ f. e (inr f)) u)

-- ---- cycles taken out of a walk

-- An arc and a way back to its start are a cycle.
cycle_of : {Start : ℕ → Type 0} {L : ℕ → ℕ → Type 0} {A : ℕ → ℕ → ℤ → Type 0} {j l : ℕ} (w : ℤ) {v : ℤ}
    → Reachable Start L j → A j l w → Way A l j v → Cycle Start L A (w +ℤ v)
unfolding Distinct
cycle_of {j = j} w r a s =
    record { at = j; arcs = s.arcs; reachable = r; walk = step a s.walk; distinct = (s.ends, s.distinct) }

-- What is left of a walk of weight w: a way with its ends; in a sum with the property P it may be put back for w.
record Left (A : ℕ → ℕ → ℤ → Type 0) (P : ℤ → Type 0) (j k : ℕ) (w : ℤ) : Type 0 where
  weight : ℤ
  way : Way A j k weight
  back : (u : ℤ) → P (u +ℤ weight) → P (u +ℤ w)

module _ {Start : ℕ → Type 0} {L : ℕ → ℕ → Type 0} {A : ℕ → ℕ → ℤ → Type 0} (leads : (j l : ℕ) (w : ℤ) → A j l w → L j l)
    {P : ℤ → Type 0} (sums : (u v : ℤ) → P u → P v → P (u +ℤ v)) (good : (w : ℤ) → Cycle Start L A w → P w) where
  -- The new arc leads from where the walk ends: all is taken out.
  all_out : {j l k : ℕ} {w v : ℤ} → Reachable Start L j → A j l w → Left A P l k v → j ≡ k → Left A P j k (w +ℤ v)
  all_out {j} {l} {k} {w} {v} r a q e = subst (λ (y : ℕ). Left A P j y (w +ℤ v)) e (record {
    weight = pos 0;
    way = none_yet;
    back = λ u h.
        let d : u +ℤ pos 0 ≡ u = omega (whole, plus_read u (pos 0)) in
        sums u (w +ℤ v) (rw d at h) (q.back w (good (w +ℤ q.weight) (cycle_of w r a (subst (λ (y : ℕ). Way A l y q.weight) (sym e) q.way))));
  })

  -- It leads from a variable that the way passes: the part up to there is taken out.
  part_out : {j l k : ℕ} {w v : ℤ} → Reachable Start L j → A j l w → (q : Left A P l k v) → Cut j q.way.walk → Left A P j k (w +ℤ v)
  part_out {w = w} {v = v} r a q c = record {
    weight = c.v;
    way = c.after;
    back = λ u h.
        let g = sums (u +ℤ c.v) (w +ℤ c.u) h (good (w +ℤ c.u) (cycle_of w r a c.before)) in
        let d : (u +ℤ c.v) +ℤ (w +ℤ c.u) ≡ (u +ℤ w) +ℤ q.weight = omega (
          whole,
          c.weights,
          plus_read u c.v,
          plus_read w c.u,
          plus_read (u +ℤ c.v) (w +ℤ c.u),
          plus_read u w,
          plus_read c.u c.v,
          plus_read (u +ℤ w) q.weight,
        ) in
        rw (← +ℤ_assoc u w v) (q.back (u +ℤ w) (rw d at g));
  }

  -- It leads from a new one: the way is one arc longer.
  longer : {j l k : ℕ} {w v : ℤ} → A j l w → (q : Left A P l k v) → (j ≡ k → ⊥) → (Passes j q.way.walk → ⊥) → Left A P j k (w +ℤ v)
  unfolding Uses Distinct
  longer {w = w} {v = v} a q other new = record {
    weight = w +ℤ q.weight;
    way = record {
      arcs = suc q.way.arcs;
      walk = step a q.way.walk;
      distinct = (new, q.way.distinct);
      ends = ⊎_elim other q.way.ends;
    };
    back = λ u h. rw (← +ℤ_assoc u w v) (q.back (u +ℤ w) (rw (+ℤ_assoc u w q.weight) h));
  }

  -- What is left of a walk.
  left : {j k n : ℕ} {w : ℤ} → Reachable Start L j → Walk A j k n w → Left A P j k w
  left r stop = record { weight = pos 0; way = none_yet; back = λ u h. h }
  left {j} {k} r (step {l = l} {w = w} {v = v} a p) = go (left (onward r (leads j l w a)) p)
    where
      go : Left A P l k v → Left A P j k (w +ℤ v)
      go q = at (ℕ_discrete j k) (passes? j q.way.walk)
        where
          at : Dec (j ≡ k) → Passes j q.way.walk ⊎ (Passes j q.way.walk → ⊥) → Left A P j k (w +ℤ v)
          at (yes e) d = all_out r a q e
          at (no d) (inl u) = part_out r a q (cut j q.way.walk q.way.distinct q.way.ends u)
          at (no d) (inr f) = longer a q d f

  -- Of a closed walk the first arc and what is left of the others are a cycle.
  closed_good : {j k n : ℕ} {w : ℤ} → j ≡ k → 0 < n → Reachable Start L j → Walk A j k n w → P w
  closed_good e h r stop = absurd (omega arith)
  closed_good e h r (step {j = j} {l = l} {w = w} {v = v} a p) =
      let q : Left A P l j v = subst (λ (y : ℕ). Left A P l y v) (sym e) (left (onward r (leads j l w a)) p) in
      q.back w (good (w +ℤ q.weight) (cycle_of w r a q.way))

  -- What holds of every cycle holds of every closed walk.
  pub circuits_good : (w : ℤ) → Circuit Start L A w → P w
  circuits_good w c = closed_good refl (omega arith) c.reachable c.walk

-- A cycle is a closed walk.
pub cycle_circuit : {Start : ℕ → Type 0} {L : ℕ → ℕ → Type 0} {A : ℕ → ℕ → ℤ → Type 0} {w : ℤ} → Cycle Start L A w → Circuit Start L A w
cycle_circuit c = record { at = c.at; arcs = c.arcs; reachable = c.reachable; walk = c.walk }

-- All its variables are reached, not only the one where it is begun.
pub cycle_reached : {Start : ℕ → Type 0} {L : ℕ → ℕ → Type 0} {A : ℕ → ℕ → ℤ → Type 0} → ((j l : ℕ) (w : ℤ) → A j l w → L j l)
    → {w : ℤ} (c : Cycle Start L A w) (x : ℕ) → Passes x c.walk → Reachable Start L x
unfolding Uses
cycle_reached {Start} {L} {A} leads c x u = along c.reachable c.walk u
  where
    along : {j k n : ℕ} {v : ℤ} → Reachable Start L j → (p : Walk A j k n v) → Passes x p → Reachable Start L x
    along r stop u = absurd u
    along r (step a p) (inl e) = subst (Reachable Start L) e r
    along r (step {j = j} {l = l} {w = v} a p) (inr u) = along (onward r (leads j l v a)) p u

-- A property of weights that sums keep holds of every cycle exactly when it holds of every closed walk.
pub cycles_exactly : {Start : ℕ → Type 0} {L : ℕ → ℕ → Type 0} {A : ℕ → ℕ → ℤ → Type 0} (P : ℤ → Type 0)
    → ((u v : ℤ) → P u → P v → P (u +ℤ v)) → ((j l : ℕ) (w : ℤ) → A j l w → L j l)
    → ((w : ℤ) → Cycle Start L A w → P w) ↔ ((w : ℤ) → Circuit Start L A w → P w)
cycles_exactly P sums leads = (λ good. circuits_good leads sums good, λ good w c. good w (cycle_circuit c))

-- ---- an arc that a cycle uses

-- The arcs O are those of A with the property Q.
pub record Those (A : ℕ → ℕ → ℤ → Type 0) (Q : (j l : ℕ) (w : ℤ) → A j l w → Type 0) (O : ℕ → ℕ → ℤ → Type 0) : Type 0 where
  pub arc : (j l : ℕ) (w : ℤ) → O j l w → A j l w
  pub has : (j l : ℕ) (w : ℤ) (o : O j l w) → Q j l w (arc j l w o)
  pub is : (j l : ℕ) (w : ℤ) (a : A j l w) → Q j l w a → O j l w

module _ {Start : ℕ → Type 0} {L : ℕ → ℕ → Type 0} {A O : ℕ → ℕ → ℤ → Type 0} {Q : (j l : ℕ) (w : ℤ) → A j l w → Type 0}
    (those : Those A Q O) (leads : (j l : ℕ) (w : ℤ) → A j l w → L j l) where
  -- An arc with a walk back has a way back, which closes a cycle that uses it.
  unused_circuit : NoCycleUses Start L A Q → UsesObjective Start L O A → ⊥
  unfolding Uses cycle_of
  unused_circuit none u =
      let a = those.arc u.at u.to u.w u.arc in
      let q : Left A (λ _. Unit) u.to u.at u.v =
      left leads {P = λ _. Unit} (λ w v _ _. tt) (λ w c. tt) (onward u.reachable (leads u.at u.to u.w a)) u.back in
      none (u.w +ℤ q.weight) (cycle_of u.w u.reachable a q.way) (inl (those.has u.at u.to u.w u.arc))

  -- A closed walk that uses an arc, begun there; `before` is its part from its own start.
  begun : {i j k m n : ℕ} {v w : ℤ} → k ≡ i → Reachable Start L j → Walk A i j m v → (p : Walk A j k n w) → Uses Q p → UsesObjective Start L O A
  unfolding Uses
  begun e r before stop u = absurd u
  begun {j = j} {m = m} {v = v} e r before (step {l = l} {n = n} {w = w} {v = x} a p) (inl q) = record {
    at = j;
    to = l;
    arcs = n + m;
    w = w;
    v = x +ℤ v;
    reachable = r;
    arc = those.is j l w a q;
    back = walk_append p (subst (λ (y : ℕ). Walk A y j m v) (sym e) before);
  }
  begun {j = j} e r before (step {l = l} {w = w} a p) (inr u) = begun e (onward r (leads j l w a)) (walk_append before (step a stop)) p u

  -- No cycle uses such an arc exactly when no closed walk does.
  pub unused_exactly : NoCycleUses Start L A Q ↔ (UsesObjective Start L O A → ⊥)
  unused_exactly = (unused_circuit, λ none w c u. none (begun refl c.reachable stop c.walk u))

-- ---- the conditions of each class, from any start

module _ (Start : ℕ → Type 0) (p : Problem) (picks : Strategy) where
  -- Classes 1 and 3: every cycle weighs below zero exactly when every closed walk does.
  pub below_exactly : (t : ℤ) → BelowZero Start p picks t ↔ ((w : ℤ) → Circuit Start (Leads p picks) (Arc p picks t) w → w <ℤ pos 0)
  below_exactly t = cycles_exactly (λ w. w <ℤ pos 0) (λ u v h k. omega (whole, h, k, plus_read u v)) ((picked_kind p picks).leads t)

  -- Class 2: every cycle weighs zero or more exactly when every closed walk does.
  pub at_least_exactly : (t : ℤ) → AtLeastZero Start p picks t ↔ ((w : ℤ) → Circuit Start (RowLeads p picks) (RowArc p picks t) w → pos 0 ≤ℤ w)
  at_least_exactly t = cycles_exactly (λ w. pos 0 ≤ℤ w) (λ u v h k. omega (whole, h, k, plus_read u v)) ((row_picked_kind p picks).leads t)

  -- Class 3: no cycle uses the objective exactly when no closed walk does.
  pub objective_exactly : ObjectiveUnused Start p picks ↔ (UsesObjective Start (Leads p picks) (ObjectiveArc p picks) (Arc p picks (pos 0)) → ⊥)
  objective_exactly = unused_exactly (record {
    arc = λ j l w o. record { row = p.m; picked = o.picked; inside = o.inside; by = o.by };
    has = λ j l w o. refl;
    is = λ j l w a e. record { picked = rw (← e) a.picked; inside = a.inside; by = subst (λ (i : ℕ). ArcBy p (pos 0) i j l w) e a.by };
  }) ((picked_kind p picks).leads (pos 0))

  -- Class 2: the same.
  pub row_objective_exactly :
      ObjectiveUnusedByRows Start p picks ↔ (UsesObjective Start (RowLeads p picks) (RowObjectiveArc p picks) (RowArc p picks (pos 0)) → ⊥)
  row_objective_exactly = unused_exactly (record {
    arc = λ j l w o. record { row = p.m; inside = omega arith; picked = o.picked; by = o.by };
    has = λ j l w o. refl;
    is = λ j l w a e. record { picked = rw (← e) a.picked; by = subst (λ (i : ℕ). ArcBy p (pos 0) i j l w) e a.by };
  }) ((row_picked_kind p picks).leads (pos 0))
