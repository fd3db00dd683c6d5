-- Longest walks by rounds (Bellman–Ford), over any matrix, exits and number N of variables.
-- The value after k rounds is that of the heaviest walk of at most k arcs to an exit. A round that changes nothing stays
-- so, and its values are a potential, which bounds every walk.
use Prim.Native.Nat.{ℕ, zero, suc, ◌≤◌, ◌<◌}
use mathlib.Core.Path.{◌≡◌, ap, sym, subst, ◌∙◌}
use mathlib.Core.Logic.{◌⊎◌, inl, inr, ⊎_elim}
use native.Mathlib.Omega.{arith}
use lib.IntN.{ℤ, pos, ◌+ℤ◌, +ℤ_idl}
use lib.Signed.{◌≤ℤ◌, ◌<ℤ◌}
use Rattle.base.proofs.Numbers.{nat_le_or_lt}
use Rattle.definitions.specs.Tropical.{Trop, bot, fin, plus, ◌⊑◌, whole_least, larger, largest, Finite}
use Rattle.definitions.specs.Certificate.{Walk, stop, step}
use Rattle.definitions.proofs.Whole.{whole, plus_read, le_or_lt}
use Rattle.definitions.proofs.Tropical.{blank_or_finite, ⊑_refl, ⊑_trans, ⊑_of_eq, ⊑_antisym, fin_below, finite_above, below_bot, zero_plus, plus_twice, plus_fin, Parts, plus_above, plus_mono, plus_cancel, larger_left, larger_right, larger_one, larger_least, larger_mono, largest_above, largest_least, largest_mono, largest_ext, Attains, largest_at}
use Rattle.duality.specs.Values.{value_at}
use Rattle.duality.specs.Gains.{Entry, Gain}
use Rattle.duality.specs.Sweeps.{Potential}
use Rattle.duality.proofs.Walks.{Inside, NoGain, Looped, looped, walk_keep}

-- A walk of at most k arcs from j to an exit, worth at least v.
pub record Way (W : ℕ → ℕ → Trop) (exits : ℕ → Trop) (N k j : ℕ) (v : ℤ) : Type 0 where
  pub arcs : ℕ
  pub weight : ℤ
  pub end : ℕ
  pub exit : ℤ
  pub few : arcs ≤ k
  pub exit_is : exits end ≡ fin exit
  pub worth : v ≤ℤ (weight +ℤ exit)
  pub walk : Walk (Entry W N) j end arcs weight

-- The numbers e are unchanged by a round.
pub record Stable (W : ℕ → ℕ → Trop) (exits : ℕ → Trop) (N : ℕ) (e : ℕ → Trop) : Type 0 where
  pub stable : (j : ℕ) → j < N → larger (exits j) (largest (λ l. plus (W j l) (e l)) N) ≡ e j

-- A walk of at least one arc ends below N.
pub entries_end : {W : ℕ → ℕ → Trop} {N j k n : ℕ} {w : ℤ} → 0 < n → Walk (Entry W N) j k n w → k < N
entries_end h stop = absurd (omega arith)
entries_end {W} {N} h (step a r) =
    (walk_keep {B = Entry W N} (λ j. j < N) (λ j l w h b. (b, b.inside)) a.inside r).1

-- ---- potentials

-- A potential bounds every walk.
pub potential_walk : {W : ℕ → ℕ → Trop} {N : ℕ} {e : ℕ → Trop} {j k n : ℕ} {w : ℤ} → Potential W N e → j < N
    → Walk (Entry W N) j k n w → plus (fin w) (e k) ⊑ e j
potential_walk {e = e} p h (stop {j = j}) = ⊑_of_eq (zero_plus (e j))
potential_walk {e = e} p h (step {j = j} {l = l} {k = k} {w = w} {v = v} a r) =
    rw plus_twice
    (⊑_trans
    (plus_mono (⊑_refl (fin w)) (potential_walk p a.inside r))
    (rw a.entry at (p.bounds j l h a.inside)))

-- A closed walk through a variable where the potential is whole weighs at most zero.
pub potential_closed : {W : ℕ → ℕ → Trop} {N : ℕ} {e : ℕ → Trop} {j n : ℕ} {w : ℤ} → Potential W N e → j < N
    → Finite (e j) → Walk (Entry W N) j j n w → w ≤ℤ pos 0
potential_closed {e = e} {j} {w = w} p h f r =
    fin_below (plus_cancel f.whole (rw (zero_plus, ← f.is) (potential_walk p h r)))

module _ (W : ℕ → ℕ → Trop) (exits : ℕ → Trop) (N : ℕ) where
  -- ---- one round

  -- An exit is at most the value after any number of rounds.
  pub exit_value : (k j : ℕ) → exits j ⊑ value_at W exits N k j
  unfolding value_at
  exit_value zero j = ⊑_refl (exits j)
  exit_value (suc k) j = larger_left _ _

  -- A round bounds every arc.
  pub arc_value : (k j l : ℕ) → l < N → plus (W j l) (value_at W exits N k l) ⊑ value_at W exits N (suc k) j
  unfolding value_at
  arc_value k j l h = ⊑_trans (largest_above (λ l. plus (W j l) (value_at W exits N k l)) N l h) (larger_right _ _)

  -- A round is at most what exceeds the exit and every arc.
  pub round_least : (k j : ℕ) {z : Trop} → exits j ⊑ z → ((l : ℕ) → l < N → plus (W j l) (value_at W exits N k l) ⊑ z)
      → value_at W exits N (suc k) j ⊑ z
  unfolding value_at
  round_least k j h a = larger_least h (largest_least _ N a)

  -- ---- values and walks

  -- What an exit at least is, the walk without arcs is worth.
  exit_way : (k j : ℕ) {v : ℤ} → fin v ⊑ exits j → Way W exits N k j v
  exit_way k j {v} h =
      let f : Finite (exits j) = finite_above h in
      let b : v ≤ℤ f.whole = fin_below (rw f.is at h) in
      record {
        arcs = 0;
        weight = pos 0;
        end = j;
        exit = f.whole;
        few = omega arith;
        exit_is = f.is;
        worth = rw +ℤ_idl b;
        walk = stop;
      }

  -- A walk is led by an arc.
  arc_way : (k j l : ℕ) {v w u : ℤ} → Entry W N j l w → v ≤ℤ (w +ℤ u) → Way W exits N k l u → Way W exits N (suc k) j v
  arc_way k j l {v} {w} {u} a h r =
      record {
        arcs = suc r.arcs;
        weight = w +ℤ r.weight;
        end = r.end;
        exit = r.exit;
        few = omega arith;
        exit_is = r.exit_is;
        worth = omega (whole, plus_read (w +ℤ r.weight) r.exit, plus_read w r.weight, plus_read r.weight r.exit, plus_read w u);
        walk = step a r.walk;
      }

  -- What a whole value at least is, a walk is worth.
  pub value_way : (k j : ℕ) {v : ℤ} → fin v ⊑ value_at W exits N k j → Way W exits N k j v
  unfolding value_at
  value_way zero j h = exit_way 0 j h
  value_way (suc k) j {v} h =
      ⊎_elim (λ e. exit_way (suc k) j (rw e at h)) (λ e. by_arc (λ l u. value_way k l {v = u}) (rw e at h)) (larger_one (exits j) (largest terms N))
    where
      terms : ℕ → Trop
      terms l = plus (W j l) (value_at W exits N k l)

      by_arc : ((l : ℕ) (u : ℤ) → fin u ⊑ value_at W exits N k l → Way W exits N k l u) → fin v ⊑ largest terms N → Way W exits N (suc k) j v
      by_arc shorter b =
          let a : Attains terms N = largest_at terms N (finite_above b) in
          let p : Parts v (W j a.place) (value_at W exits N k a.place) = plus_above _ _ (rw a.same at b) in
          arc_way k j a.place (record { inside = a.inside; entry = p.first_is }) p.worth
          (shorter a.place p.second (⊑_of_eq (sym p.second_is)))

  -- A walk and the exit at its end weigh at most the value.
  walk_value : {j end n : ℕ} {w : ℤ} (k : ℕ) → Walk (Entry W N) j end n w → n ≤ k → plus (fin w) (exits end) ⊑ value_at W exits N k j
  walk_value {j} k stop h = rw zero_plus (exit_value k j)
  walk_value zero (step a r) h = absurd (omega arith)
  walk_value {j} {end} (suc k) (step {l = l} {w = w} a r) h =
      rw plus_twice
      (⊑_trans
      (plus_mono (⊑_refl (fin w)) (walk_value k r (omega arith)))
      (rw a.entry at (arc_value k j l a.inside)))

  -- What a walk is worth, the value at least is.
  pub way_value : (k j : ℕ) {v : ℤ} → Way W exits N k j v → fin v ⊑ value_at W exits N k j
  way_value k j {v} r = ⊑_trans (rw (r.exit_is, plus_fin) (whole_least r.worth)) (walk_value k r.walk r.few)

  -- ---- more rounds

  -- A round of equal values gives equal values.
  pub round_same : (k m j : ℕ) → ((l : ℕ) → l < N → value_at W exits N k l ≡ value_at W exits N m l)
      → value_at W exits N (suc k) j ≡ value_at W exits N (suc m) j
  unfolding value_at
  round_same k m j h = ap (larger (exits j)) (largest_ext _ _ N (λ l i. ap (plus (W j l)) (h l i)))

  -- A round loses nothing.
  pub value_grows : (k j : ℕ) → value_at W exits N k j ⊑ value_at W exits N (suc k) j
  unfolding value_at
  value_grows zero j = exit_value 1 j
  value_grows (suc k) j =
      round_least k j (exit_value (suc (suc k)) j)
      (λ l h. ⊑_trans (plus_mono (⊑_refl (W j l)) (value_grows k l)) (arc_value (suc k) j l h))

  -- Nor do several.
  pub value_later : (k m : ℕ) → k ≤ m → (j : ℕ) → value_at W exits N k j ⊑ value_at W exits N m j
  value_later k zero b j = let e : k ≡ 0 = omega arith in rw e (⊑_refl _)
  value_later k (suc m) b j =
      ⊎_elim
      (λ (le : k ≤ m). ⊑_trans (value_later k m le j) (value_grows m j))
      (λ (lt : m < k). let e : k ≡ suc m = omega arith in rw e (⊑_refl _))
      (nat_le_or_lt k m)

  -- A round without change stays so.
  pub value_still : (k : ℕ) → ((j : ℕ) → j < N → value_at W exits N (suc k) j ≡ value_at W exits N k j)
      → (m : ℕ) → k ≤ m → (j : ℕ) → j < N → value_at W exits N m j ≡ value_at W exits N k j
  value_still k h zero b j i = let e : k ≡ 0 = omega arith in rw e
  value_still k h (suc m) b j i =
      ⊎_elim
      (λ (le : k ≤ m). round_same m k j (value_still k h m le) ∙ h j i)
      (λ (lt : m < k). let e : k ≡ suc m = omega arith in rw e)
      (nat_le_or_lt k m)

  -- ---- stable numbers

  -- A value that a round leaves as it is, is stable.
  pub still_stable : (k : ℕ) → ((j : ℕ) → j < N → value_at W exits N (suc k) j ≡ value_at W exits N k j)
      → Stable W exits N (value_at W exits N k)
  unfolding value_at
  still_stable k h = record { stable = h }

  -- Stable numbers are a potential,
  pub stable_potential : {e : ℕ → Trop} → Stable W exits N e → Potential W N e
  stable_potential {e} s = record {
    bounds = λ j l h i. subst (λ z. plus (W j l) (e l) ⊑ z) (s.stable j h)
        (⊑_trans (largest_above (λ l. plus (W j l) (e l)) N l i) (larger_right _ _));
  }

  -- and at least the exits.
  pub stable_exit : {e : ℕ → Trop} → Stable W exits N e → (j : ℕ) → j < N → exits j ⊑ e j
  stable_exit {e} s j h = subst (λ z. exits j ⊑ z) (s.stable j h) (larger_left _ _)

  -- A potential that is at least the exits is at least every value.
  pub value_under : {e : ℕ → Trop} → Potential W N e → ((j : ℕ) → j < N → exits j ⊑ e j)
      → (k j : ℕ) → j < N → value_at W exits N k j ⊑ e j
  unfolding value_at
  value_under p x zero j h = x j h
  value_under p x (suc k) j h =
      round_least k j (x j h) (λ l i. ⊑_trans (plus_mono (⊑_refl (W j l)) (value_under p x k l i)) (p.bounds j l h i))

  -- ---- stability

  entries_inside : Inside (Entry W N) N
  entries_inside = record { inside = λ j l w a. a.inside }

  -- Of N arcs a walk can spare one, or a closed walk on it gains.
  fewer_or_gains : (k j : ℕ) {v : ℤ} → N ≤ suc k → j < N → Way W exits N (suc k) j v → Way W exits N k j v ⊎ Gain W N j
  fewer_or_gains k j {v} b h r = ⊎_elim (λ (few : r.arcs ≤ k). inl (kept few)) (λ (l : k < r.arcs). cut l) (nat_le_or_lt r.arcs k)
    where
      kept : r.arcs ≤ k → Way W exits N k j v
      kept few = record {
        arcs = r.arcs;
        weight = r.weight;
        end = r.end;
        exit = r.exit;
        few = few;
        exit_is = r.exit_is;
        worth = r.worth;
        walk = r.walk;
      }

      cut : k < r.arcs → Way W exits N k j v ⊎ Gain W N j
      cut l = ⊎_elim (λ (c : q.loop_weight ≤ℤ pos 0). inl (spared c)) (λ c. inr (gain c)) (le_or_lt q.loop_weight (pos 0))
        where
          q : Looped (Entry W N) N j r.end r.arcs r.weight
          q = looped entries_inside h (omega arith) r.walk

          spared : q.loop_weight ≤ℤ pos 0 → Way W exits N k j v
          spared c = record {
            arcs = q.rest_arcs;
            weight = q.rest_weight;
            end = r.end;
            exit = r.exit;
            few = omega (arith, q.some, q.counts, r.few);
            exit_is = r.exit_is;
            worth = omega (whole, q.weights, plus_read q.loop_weight q.rest_weight, plus_read q.rest_weight r.exit, plus_read r.weight r.exit, r.worth);
            walk = q.rest;
          }

          gain : pos 0 <ℤ q.loop_weight → Gain W N j
          gain c = record {
            at = q.at;
            way_arcs = q.way_arcs;
            way_weight = q.way_weight;
            way = q.way;
            arcs = q.loop_arcs;
            weight = q.loop_weight;
            some = q.some;
            most = q.most;
            gains = c;
            loop = q.loop;
          }

  -- From N − 1 rounds on a value is fixed, or a closed walk gains.
  pub fixed_or_gains : (k : ℕ) → N ≤ suc k → (j : ℕ) → j < N
      → (value_at W exits N (suc k) j ≡ value_at W exits N k j) ⊎ Gain W N j
  fixed_or_gains k b j h = ⊎_elim blank at_whole (blank_or_finite (value_at W exits N (suc k) j))
    where
      blank : value_at W exits N (suc k) j ≡ bot → (value_at W exits N (suc k) j ≡ value_at W exits N k j) ⊎ Gain W N j
      blank e = inl (e ∙ sym (below_bot (rw e at (value_grows k j))))

      at_whole : Finite (value_at W exits N (suc k) j) → (value_at W exits N (suc k) j ≡ value_at W exits N k j) ⊎ Gain W N j
      at_whole f =
          ⊎_elim (λ r. inl (⊑_antisym (rw f.is (way_value k j r)) (value_grows k j))) (λ g. inr g)
          (fewer_or_gains k j b h (value_way (suc k) j (⊑_of_eq (sym f.is))))

  -- Where no closed walk gains, further rounds change nothing.
  pub value_fixed : NoGain (Entry W N) N → (k : ℕ) → N ≤ suc k → (j : ℕ) → j < N
      → value_at W exits N (suc k) j ≡ value_at W exits N k j
  value_fixed n k b j h = ⊎_elim (λ e. e) (λ g. absurd (clash g)) (fixed_or_gains k b j h)
    where
      clash : Gain W N j → ⊥
      clash g = let c : g.weight ≤ℤ pos 0 = n.no_gain g.at g.arcs g.weight g.some g.most g.loop in omega (whole, g.gains)

-- Larger entries and exits have larger values.
pub value_mono : (W W' : ℕ → ℕ → Trop) (exits exits' : ℕ → Trop) (N : ℕ)
    → ((j l : ℕ) → j < N → l < N → W j l ⊑ W' j l) → ((j : ℕ) → j < N → exits j ⊑ exits' j)
    → (k j : ℕ) → j < N → value_at W exits N k j ⊑ value_at W' exits' N k j
unfolding value_at
value_mono W W' exits exits' N w x zero j h = x j h
value_mono W W' exits exits' N w x (suc k) j h =
    larger_mono (x j h) (largest_mono _ _ N (λ l i. plus_mono (w j l h i) (value_mono W W' exits exits' N w x k l i)))
