-- Walks along any arcs: joined, mapped, folded, turned round, and made short. A walk of at least N arcs among N variables repeats
-- one (pigeonhole), so it contains a closed walk of 1 to N arcs; taking it out leaves a walk with the same ends. Where
-- closed walks gain nothing, every walk has one with the same ends, fewer than N arcs and at least its weight.
use Prim.Native.Nat.{ℕ, zero, suc, ◌+◌, ◌≤◌, ◌<◌}
use mathlib.Core.Path.{◌≡◌, refl, sym, subst}
use mathlib.Core.Logic.{⊎_elim}
use native.Mathlib.Omega.{arith}
use lib.IntN.{ℤ, pos, ◌+ℤ◌, +ℤ_assoc, +ℤ_idl}
use lib.Signed.{◌≤ℤ◌}
use Rattle.base.proofs.Numbers.{nat_le_or_lt}
use Rattle.definitions.specs.Certificate.{Walk, stop, step}
use Rattle.definitions.proofs.Whole.{whole, plus_read}
use Rattle.duality.proofs.Pigeonhole.{pigeonhole}

-- Arcs lead to the variables below N.
pub record Inside (A : ℕ → ℕ → ℤ → Type 0) (N : ℕ) : Type 0 where
  pub inside : (j l : ℕ) (w : ℤ) → A j l w → l < N

-- No closed walk of 1 to N arcs weighs above zero.
pub record NoGain (A : ℕ → ℕ → ℤ → Type 0) (N : ℕ) : Type 0 where
  pub no_gain : (j n : ℕ) (w : ℤ) → 0 < n → n ≤ N → Walk A j j n w → w ≤ℤ pos 0

-- A walk of fewer than N arcs whose weight has the property P.
pub record Trimmed (A : ℕ → ℕ → ℤ → Type 0) (P : ℤ → Type 0) (N j k : ℕ) : Type 0 where
  pub arcs : ℕ
  pub weight : ℤ
  pub few : arcs < N
  pub good : P weight
  pub walk : Walk A j k arcs weight

-- A walk of fewer than N arcs.
pub record Brief (A : ℕ → ℕ → ℤ → Type 0) (N j k : ℕ) : Type 0 where
  pub arcs : ℕ
  pub weight : ℤ
  pub few : arcs < N
  pub walk : Walk A j k arcs weight

-- A walk of n arcs and weight w taken apart: a closed walk of 1 to N arcs, a way to it, and the rest as one walk.
pub record Looped (A : ℕ → ℕ → ℤ → Type 0) (N j k n : ℕ) (w : ℤ) : Type 0 where
  pub at : ℕ
  pub loop_arcs : ℕ
  pub loop_weight : ℤ
  pub rest_arcs : ℕ
  pub rest_weight : ℤ
  pub way_arcs : ℕ
  pub way_weight : ℤ
  pub some : 0 < loop_arcs
  pub most : loop_arcs ≤ N
  pub loop : Walk A at at loop_arcs loop_weight
  pub rest : Walk A j k rest_arcs rest_weight
  pub way : Walk A j at way_arcs way_weight
  pub counts : loop_arcs + rest_arcs ≡ n
  pub weights : loop_weight +ℤ rest_weight ≡ w

-- ---- joining, mapping, folding

-- The same walk under another count and another form of its weight.
pub walk_as : {A : ℕ → ℕ → ℤ → Type 0} {j k m n : ℕ} {w v : ℤ} → m ≡ n → w ≡ v → Walk A j k m w → Walk A j k n v
walk_as e d p = rw e at (rw d at p)

-- Two walks, one after the other.
pub walk_append : {A : ℕ → ℕ → ℤ → Type 0} {j l k m n : ℕ} {w v : ℤ}
    → Walk A j l m w → Walk A l k n v → Walk A j k (m + n) (w +ℤ v)
walk_append {n = n} {v = v} stop q = walk_as (omega arith) (sym (+ℤ_idl v)) q
walk_append {n = n} {v = v} (step {n = m} {w = w} {v = u} a p) q =
    let e : suc (m + n) ≡ suc m + n = omega arith in
    walk_as e (sym (+ℤ_assoc w u v)) (step a (walk_append p q))

-- A reflexive and transitive fact of arcs holds of walks.
pub walk_fold : {A : ℕ → ℕ → ℤ → Type 0} (R : ℕ → ℕ → ℤ → Type 0)
    → ((j : ℕ) → R j j (pos 0)) → ((j l k : ℕ) (w v : ℤ) → R j l w → R l k v → R j k (w +ℤ v))
    → ((j l : ℕ) (w : ℤ) → A j l w → R j l w) → {j k n : ℕ} {w : ℤ} → Walk A j k n w → R j k w
walk_fold R r t f (stop {j = j}) = r j
walk_fold R r t f (step {j = j} {l = l} {k = k} {w = w} {v = v} a p) =
    t j l k w v (f j l w a) (walk_fold R r t f p)

-- A property of variables that arcs preserve is carried along, and the arcs are changed on the way.
pub walk_keep : {A B : ℕ → ℕ → ℤ → Type 0} (P : ℕ → Type 0)
    → ((j l : ℕ) (w : ℤ) → P j → A j l w → B j l w × P l)
    → {j k n : ℕ} {w : ℤ} → P j → Walk A j k n w → Walk B j k n w × P k
walk_keep P f h stop = (stop, h)
walk_keep P f h (step {j = j} {l = l} {w = w} a p) =
    let s = f j l w h a in
    let q = walk_keep P f s.1 p in
    (step s.0 q.0, q.1)

-- Arcs of one kind that are arcs of another make walks of it.
pub walk_change : {A B : ℕ → ℕ → ℤ → Type 0} → ((j l : ℕ) (w : ℤ) → A j l w → B j l w)
    → {j k n : ℕ} {w : ℤ} → Walk A j k n w → Walk B j k n w
walk_change f p = (walk_keep (λ _. Unit) (λ j l w _ a. (f j l w a, tt)) tt p).0

-- A walk backwards, where an arc has one the other way; a property of variables is carried along.
pub walk_back : {A B : ℕ → ℕ → ℤ → Type 0} (P : ℕ → Type 0)
    → ((j l : ℕ) (w : ℤ) → P j → A j l w → B l j w × P l)
    → {j k n : ℕ} {w : ℤ} → P j → Walk A j k n w → Walk B k j n w
walk_back P f h stop = stop
walk_back P f h (step {j = j} {l = l} {n = n} {w = w} {v = v} a p) =
    let s = f j l w h a in
    walk_as (omega arith) (omega (whole, plus_read v (w +ℤ pos 0), plus_read w (pos 0), plus_read w v))
    (walk_append (walk_back P f s.1 p) (step s.0 stop))

-- ---- the variables of a walk

-- The variable after k arcs; past the end, the last one.
node : {A : ℕ → ℕ → ℤ → Type 0} {j k n : ℕ} {w : ℤ} → Walk A j k n w → ℕ → ℕ
node (stop {j = j}) i = j
node (step {j = j} a p) zero = j
node (step a p) (suc i) = node p i

node_first : {A : ℕ → ℕ → ℤ → Type 0} {j k n : ℕ} {w : ℤ} (p : Walk A j k n w) → node p 0 ≡ j
unfolding node
node_first stop = refl
node_first (step a p) = refl

node_inside : {A : ℕ → ℕ → ℤ → Type 0} {N : ℕ} → Inside A N → {j k n : ℕ} {w : ℤ} → j < N
    → (p : Walk A j k n w) (i : ℕ) → node p i < N
unfolding node
node_inside s h stop i = h
node_inside s h (step a p) zero = h
node_inside s h (step {j = j} {l = l} {w = w} a p) (suc i) = node_inside s (s.inside j l w a) p i

-- A walk cut at the variable after i arcs.
record Cut (A : ℕ → ℕ → ℤ → Type 0) (j m k i n : ℕ) (w : ℤ) : Type 0 where
  after : ℕ
  u : ℤ
  v : ℤ
  first : Walk A j m i u
  second : Walk A m k after v
  counts : i + after ≡ n
  weights : u +ℤ v ≡ w

-- An arc put in front of a cut walk.
cut_on : {A : ℕ → ℕ → ℤ → Type 0} {j l m k i n : ℕ} {v : ℤ} (w : ℤ) → A j l w → Cut A l m k i n v → Cut A j m k (suc i) (suc n) (w +ℤ v)
cut_on {v = v} w a c = record {
  after = c.after;
  u = w +ℤ c.u;
  v = c.v;
  first = step a c.first;
  second = c.second;
  counts = omega arith;
  weights = omega (whole, plus_read w c.u, plus_read (w +ℤ c.u) c.v, plus_read c.u c.v, plus_read w v);
}

cut : {A : ℕ → ℕ → ℤ → Type 0} {j k n : ℕ} {w : ℤ} (p : Walk A j k n w) (i : ℕ) → i ≤ n → Cut A j (node p i) k i n w
unfolding node
cut stop zero h = record { after = 0; u = pos 0; v = pos 0; first = stop; second = stop; counts = omega arith; weights = refl }
cut stop (suc i) h = absurd (omega arith)
cut (step {n = n} {w = w} {v = v} a p) zero h = record
    { after = suc n; u = pos 0; v = w +ℤ v; first = stop; second = step a p; counts = omega arith; weights = +ℤ_idl (w +ℤ v) }
cut (step {w = w} a p) (suc i) h = cut_on w a (cut p i (omega arith))

-- ---- closed walks taken out

-- An arc put in front of a walk taken apart.
looped_on : {A : ℕ → ℕ → ℤ → Type 0} {N j l k n : ℕ} {v : ℤ} (w : ℤ) → A j l w → Looped A N l k n v → Looped A N j k (suc n) (w +ℤ v)
looped_on {v = v} w a r = record {
  at = r.at;
  loop_arcs = r.loop_arcs;
  loop_weight = r.loop_weight;
  rest_arcs = suc r.rest_arcs;
  rest_weight = w +ℤ r.rest_weight;
  way_arcs = suc r.way_arcs;
  way_weight = w +ℤ r.way_weight;
  some = r.some;
  most = r.most;
  loop = r.loop;
  rest = step a r.rest;
  way = step a r.way;
  counts = omega arith;
  weights = omega (
    whole,
    plus_read w r.rest_weight,
    plus_read r.loop_weight (w +ℤ r.rest_weight),
    plus_read r.loop_weight r.rest_weight,
    plus_read w v,
  );
}

-- A walk that is closed after its first arcs, taken apart there.
looped_first : {A : ℕ → ℕ → ℤ → Type 0} {N j k i n : ℕ} {w : ℤ} → 0 < i → i ≤ N → Cut A j j k i n w → Looped A N j k n w
looped_first {j = j} {i = i} o b c = record {
  at = j;
  loop_arcs = i;
  loop_weight = c.u;
  rest_arcs = c.after;
  rest_weight = c.v;
  way_arcs = 0;
  way_weight = pos 0;
  some = o;
  most = b;
  loop = c.first;
  rest = c.second;
  way = stop;
  counts = c.counts;
  weights = c.weights;
}

-- A walk that meets the same variable after `one` and after `two` arcs, taken apart there.
looped_at : {A : ℕ → ℕ → ℤ → Type 0} (N : ℕ) {j k n : ℕ} {w : ℤ} (p : Walk A j k n w) (one two : ℕ)
    → one < two → two ≤ one + N → two ≤ n → node p one ≡ node p two → Looped A N j k n w
unfolding node
looped_at {A} N {j} {k} {n} {w} p zero two o b h e =
    let d : node p two ≡ j = cc (node_first p) in
    looped_first o (omega arith) (subst (λ (m : ℕ). Cut A j m k two n w) d (cut p two h))
looped_at N stop (suc one) two o b h e = absurd (omega arith)
looped_at N (step a p) (suc one) zero o b h e = absurd (omega arith)
looped_at {A = A} N {j = j} {k = k} (step {l = l} {n = n} {w = w} {v = v} a p) (suc one) (suc two) o b h e =
    looped_on w a (looped_at N {j = l} p one two (omega arith) (omega arith) (omega arith) e)

-- A walk of at least N arcs among N variables contains a closed walk of 1 to N arcs.
pub looped : {A : ℕ → ℕ → ℤ → Type 0} {N j k n : ℕ} {w : ℤ} → Inside A N → j < N → N ≤ n → Walk A j k n w → Looped A N j k n w
looped {N} s h b p =
    let r = pigeonhole N (node p) (λ i _. node_inside s h p i) in
    looped_at N p r.one r.two r.ordered (omega (arith, r.inside)) (omega (arith, r.inside)) r.same

-- ---- short walks

-- Closed walks are taken out until fewer than N arcs are left; P is a property of weights that taking out keeps.
pub trim : {A : ℕ → ℕ → ℤ → Type 0} {N : ℕ} (P : ℤ → Type 0) → Inside A N
    → ((j n : ℕ) (w v : ℤ) → 0 < n → n ≤ N → Walk A j j n w → P (w +ℤ v) → P v)
    → (fuel : ℕ) {j k n : ℕ} {w : ℤ} → n ≤ fuel → j < N → P w → Walk A j k n w → Trimmed A P N j k
trim P s f zero {n = n} {w = w} b h g p = record { arcs = n; weight = w; few = omega arith; good = g; walk = p }
trim {A} {N} P s f (suc fuel) {j} {k} {n} {w} b h g p = ⊎_elim
    (λ (l : N ≤ n). again (looped s h l p) (λ m v o q r. trim P s f fuel (omega arith) h q r))
    (λ (l : n < N). record { arcs = n; weight = w; few = l; good = g; walk = p })
    (nat_le_or_lt N n)
  where
    again : Looped A N j k n w → ((m : ℕ) (v : ℤ) → m < n → P v → Walk A j k m v → Trimmed A P N j k) → Trimmed A P N j k
    again r t = t r.rest_arcs r.rest_weight (omega arith)
        (f r.at r.loop_arcs r.loop_weight r.rest_weight r.some r.most r.loop (rw r.weights g)) r.rest

-- Every walk has one with the same ends and fewer than N arcs.
pub brief : {A : ℕ → ℕ → ℤ → Type 0} {N j k n : ℕ} {w : ℤ} → Inside A N → j < N → Walk A j k n w → Brief A N j k
brief {A} {N} {j} {k} {n} s h p =
    let t : Trimmed A (λ _. Unit) N j k = trim (λ _. Unit) s (λ i m u v o b q l. tt) n (omega arith) h tt p in
    record { arcs = t.arcs; weight = t.weight; few = t.few; walk = t.walk }

-- A walk of n arcs from j.
pub record Endless (A : ℕ → ℕ → ℤ → Type 0) (j n : ℕ) : Type 0 where
  pub end : ℕ
  pub weight : ℤ
  pub walk : Walk A j end n weight

-- An arc from j that keeps the property P.
pub record Onward (A : ℕ → ℕ → ℤ → Type 0) (P : ℕ → Type 0) (j : ℕ) : Type 0 where
  pub to : ℕ
  pub weight : ℤ
  pub arc : A j to weight
  pub kept : P to

-- Where arcs lead on from every variable with the property P, walks are as long as one likes.
pub endless : {A : ℕ → ℕ → ℤ → Type 0} (P : ℕ → Type 0) → ((j : ℕ) → P j → Onward A P j)
    → (n j : ℕ) → P j → Endless A j n
endless P f zero j h = record { end = j; weight = pos 0; walk = stop }
endless P f (suc n) j h =
    let o = f j h in
    let r = endless P f n o.to o.kept in
    record { end = r.end; weight = o.weight +ℤ r.weight; walk = step o.arc r.walk }
