-- Stamps stay small. A whole value has a walk to an exit, and it is at least the weight of every such walk of as few
-- arcs. Of two arcs by the objective on a walk the first can go straight to where the second went, by the same row; so
-- some walk, no longer, has at most one, and of its weight t counts once.
use Prim.Native.Nat.{ℕ, zero, suc, ◌+◌, ◌*◌, ◌≤◌, ◌<◌}
use mathlib.Core.Path.{◌≡◌, refl, ap, sym, subst, ◌∙◌}
use mathlib.Core.Bool.{Bool, true, false, cond}
use mathlib.Core.Logic.{◌⊎◌, inl, inr, ⊎_elim}
use native.Mathlib.Omega.{arith}
use native.Mathlib.Nat.{mul-le-mul_right}
use lib.Dec.{eqb}
use lib.IntN.{ℤ, pos, nat_abs, ◌+ℤ◌, ◌-ℤ◌}
use lib.Signed.{◌≤ℤ◌, ≤ℤ_refl}
use borrow.Author.Tests.{eqb-true}
use Rattle.definitions.specs.Tropical.{Trop, fin, plus, ◌⊑◌, Finite}
use Rattle.definitions.specs.Problem.{Problem}
use Rattle.definitions.specs.Certificate.{Strategy, Walk, stop, step, raise}
use Rattle.definitions.proofs.Whole.{up, down, whole, plus_read, minus_read, abs_read}
use Rattle.definitions.proofs.Tropical.{fin_injective, fin_below, ⊑_of_eq, plus_fin, Parts, plus_above}
use Rattle.duality.specs.System.{Arc, system_at}
use Rattle.duality.specs.Values.{value_at, weights, exits, values, Policy}
use Rattle.duality.specs.Within.{Within}
use Rattle.duality.proofs.Longest.{Way, value_way, way_value}
use Rattle.duality.specs.Gains.{Entry}
use Rattle.duality.proofs.Weights.{entry_arc, arc_entry}
use Rattle.duality.proofs.Height.{Floored, exit_floor}

-- ---- over matrices: entries by one special row

-- A walk from j to k of at most n arcs that weighs at least −c.
record Light (W : ℕ → ℕ → Trop) (N c j k n : ℕ) : Type 0 where
  arcs : ℕ
  weight : ℤ
  few : arcs ≤ n
  floor : down weight ≤ c + up weight
  walk : Walk (Entry W N) j k arcs weight

-- An entry that weighs at least −c.
record Jump (W : ℕ → ℕ → Trop) (N c j l : ℕ) : Type 0 where
  weight : ℤ
  floor : down weight ≤ c + up weight
  entry : Entry W N j l weight

-- A walk with one special arc, to the variable `to`, from which it goes on without.
record Once (W : ℕ → ℕ → Trop) (N D T : ℕ) (To : ℕ → Type 0) (j k n : ℕ) : Type 0 where
  to : ℕ
  target : To to
  rest : Light W N (n * D) to k n
  whole_walk : Light W N (n * D + T) j k n

light_step : {W : ℕ → ℕ → Trop} {N c d j l k n : ℕ} → Jump W N c j l → Light W N d l k n → Light W N (c + d) j k (suc n)
light_step a r = record {
  arcs = suc r.arcs;
  weight = a.weight +ℤ r.weight;
  few = omega arith;
  floor = omega (arith, plus_read a.weight r.weight, a.floor, r.floor);
  walk = step a.entry r.walk;
}

light_more : {W : ℕ → ℕ → Trop} {N c d j k n m : ℕ} → c ≤ d → n ≤ m → Light W N c j k n → Light W N d j k m
light_more h b r = record { arcs = r.arcs; weight = r.weight; few = omega arith; floor = omega arith; walk = r.walk }

-- Entries are at least −D, but for those from special variables to special targets; from each of the first to each of the
-- second there is one of at least −(D + T).
module _ (W : ℕ → ℕ → Trop) (exits : ℕ → Trop) (N D T : ℕ) (From To : ℕ → Type 0)
    (kinds : (j l : ℕ) (w : ℤ) → j < N → Entry W N j l w → Jump W N D j l ⊎ (From j × To l))
    (jump : (j l : ℕ) → j < N → From j → To l → Jump W N (D + T) j l) where
  jumped : {j l k n : ℕ} → j < N → From j → To l → Light W N (n * D) l k n → Once W N D T To j k (suc n)
  jumped {j} {l} {k} {n} h f t r = record {
    to = l;
    target = t;
    rest = light_more (omega arith) (omega arith) r;
    whole_walk = light_more (omega arith) (omega arith) (light_step (jump j l h f t) r);
  }

  -- A walk has one with the same ends, no longer, with at most one special arc.
  at_most_once : {j k n : ℕ} {w : ℤ} (b : ℕ) → j < N → n ≤ b → Walk (Entry W N) j k n w
      → Light W N (b * D) j k b ⊎ Once W N D T To j k b
  at_most_once b h i stop = inl (record { arcs = 0; weight = pos 0; few = omega arith; floor = omega arith; walk = stop })
  at_most_once zero h i (step a r) = absurd (omega arith)
  at_most_once (suc b) h i (step {j = j} {l = l} {k = k} {w = w} a r) = go (kinds j l w h a) (at_most_once b a.inside (omega arith) r)
    where
      go : Jump W N D j l ⊎ (From j × To l) → Light W N (b * D) l k b ⊎ Once W N D T To l k b
          → Light W N (suc b * D) j k (suc b) ⊎ Once W N D T To j k (suc b)
      go (inl e) (inl q) = inl (light_more (omega arith) (omega arith) (light_step e q))
      go (inl e) (inr q) = inr (record {
        to = q.to;
        target = q.target;
        rest = light_more (omega arith) (omega arith) q.rest;
        whole_walk = light_more (omega arith) (omega arith) (light_step e q.whole_walk);
      })
      go (inr s) (inl q) = inr (jumped h s.0 s.1 q)
      go (inr s) (inr q) = inr (jumped h s.0 q.target q.rest)

  -- So the values after k rounds are at least −(k · D + T).
  once_floor : ((j : ℕ) → Floored 0 (exits j)) → (k j : ℕ) → j < N → Floored (k * D + T) (value_at W exits N k j)
  once_floor x k j h = record { floor = λ v e. bound v e (value_way W exits N k j (⊑_of_eq (sym e))) }
    where
      through : (v : ℤ) → value_at W exits N k j ≡ fin v → (r : Way W exits N k j v) → Light W N (k * D + T) j r.end k
          → down v ≤ k * D + T + up v
      through v e r q =
          let g : fin (q.weight +ℤ r.exit) ⊑ value_at W exits N k j =
          way_value W exits N k j
          (record {
            arcs = q.arcs;
            weight = q.weight;
            end = r.end;
            exit = r.exit;
            few = q.few;
            exit_is = r.exit_is;
            worth = ≤ℤ_refl (q.weight +ℤ r.exit);
            walk = q.walk;
          }) in
          let b : (q.weight +ℤ r.exit) ≤ℤ v = fin_below (rw e at g) in
          omega (whole, plus_read q.weight r.exit, q.floor, (x r.end).floor r.exit r.exit_is)

      bound : (v : ℤ) → value_at W exits N k j ≡ fin v → Way W exits N k j v → down v ≤ k * D + T + up v
      bound v e r = through v e r
          (⊎_elim (λ q. light_more (omega arith) (omega arith) q) (λ q. q.whole_walk) (at_most_once k h r.few r.walk))

-- ---- over problems

-- An arc's row is the objective, or it is not raised.
raise_none : (p : Problem) (t : ℤ) (i : ℕ) → (i ≡ p.m) ⊎ (raise p t i ≡ pos 0)
unfolding raise
raise_none p t i = go (eqb i p.m) refl
  where
    go : (b : Bool) → eqb i p.m ≡ b → (i ≡ p.m) ⊎ (cond b t (pos 0) ≡ pos 0)
    go true e = inl (eqb-true i p.m e)
    go false e = inr refl

-- A row is raised by no more than t.
raise_within : (p : Problem) (t : ℤ) (i : ℕ) → nat_abs (raise p t i) ≤ nat_abs t
unfolding raise
raise_within p t i = go (eqb i p.m)
  where
    go : (b : Bool) → nat_abs (cond b t (pos 0)) ≤ nat_abs t
    go true = omega arith
    go false = omega arith

module _ (p : Problem) (t : ℤ) (τ : Strategy) (L : ℕ) (within : Within p L) where
  -- Variables that pick the objective, and where it leads.
  ByObjective : ℕ → Type 0
  ByObjective j = (τ j ≡ p.m) × Finite (p.left p.m j)

  ToObjective : ℕ → Type 0
  ToObjective l = (l ≤ p.n) × Finite (p.right p.m l)

  kinds : (j l : ℕ) (w : ℤ) → j < suc p.n → Entry (weights (system_at p t) τ) (suc p.n) j l w
      → Jump (weights (system_at p t) τ) (suc p.n) (2 * L) j l ⊎ (ByObjective j × ToObjective l)
  unfolding system_at ByObjective ToObjective
  kinds j l w h e = ⊎_elim (λ o. inr (special o)) (λ z. inl (plain z)) (raise_none p t (τ j))
    where
      a : Arc (system_at p t) τ j l w
      a = entry_arc (system_at p t) τ e

      q : Parts a.b (p.right (τ j) l) (fin (raise p t (τ j)))
      q = plus_above _ _ (⊑_of_eq (sym a.right_is))

      sum : a.b ≡ q.first +ℤ raise p t (τ j)
      sum = fin_injective (sym a.right_is ∙ ap (λ z. plus z (fin (raise p t (τ j)))) q.first_is ∙ plus_fin _ _)

      special : τ j ≡ p.m → ((τ j ≡ p.m) × Finite (p.left p.m j)) × ((l ≤ p.n) × Finite (p.right p.m l))
      special o = (
        (o, record { whole = a.a; is = subst (λ i. p.left i j ≡ fin a.a) o a.left_is }),
        (omega (arith, e.inside), record { whole = q.first; is = subst (λ i. p.right i l ≡ fin q.first) o q.first_is }),
      )

      plain : raise p t (τ j) ≡ pos 0 → Jump (weights (system_at p t) τ) (suc p.n) (2 * L) j l
      plain z =
          let bl : nat_abs a.a ≤ L = within.left (τ j) j a.a (omega (arith, a.picked)) (omega arith) a.left_is in
          let br : nat_abs q.first ≤ L = within.right (τ j) l q.first (omega (arith, a.picked)) (omega (arith, e.inside)) q.first_is in
          record {
            weight = w;
            floor = omega (whole, a.weighs, sum, minus_read a.b a.a, plus_read q.first (raise p t (τ j)), abs_read a.a, abs_read q.first);
            entry = e;
          }

  jump : (j l : ℕ) → j < suc p.n → ByObjective j → ToObjective l → Jump (weights (system_at p t) τ) (suc p.n) (2 * L + nat_abs t) j l
  unfolding system_at ByObjective ToObjective
  jump j l h f g = record { weight = w; floor = floor; entry = arc_entry (system_at p t) τ arc }
    where
      a : ℤ
      a = f.1.whole

      b : ℤ
      b = g.1.whole

      w : ℤ
      w = (b +ℤ raise p t p.m) -ℤ a

      arc : Arc (system_at p t) τ j l w
      arc = record {
        picked = omega (arith, f.0);
        inside = omega (arith, g.0);
        a = a;
        b = b +ℤ raise p t p.m;
        left_is = rw f.0 f.1.is;
        right_is = rw (f.0, g.1.is) (plus_fin b (raise p t p.m));
        weighs = refl;
      }

      floor : down w ≤ 2 * L + nat_abs t + up w
      floor =
          let bl : nat_abs a ≤ L = within.left p.m j a (omega arith) (omega arith) f.1.is in
          let br : nat_abs b ≤ L = within.right p.m l b (omega arith) (omega (arith, g.0)) g.1.is in
          omega (
            whole,
            minus_read (b +ℤ raise p t p.m) a,
            plus_read b (raise p t p.m),
            abs_read a,
            abs_read b,
            abs_read (raise p t p.m),
            raise_within p t p.m,
          )

  -- Every value is blank or at least −((n + 1) · 2L + |t|).
  pub stamps_floor : (j : ℕ) → j ≤ p.n → Floored (suc p.n * (2 * L) + nat_abs t) (values (system_at p t) τ j)
  unfolding system_at values
  stamps_floor j h =
      once_floor (weights (system_at p t) τ) (exits (system_at p t) τ) (suc p.n) (2 * L) (nat_abs t) ByObjective ToObjective kinds jump
      (λ j. exit_floor (system_at p t) 0 (τ j) j (omega arith)) (suc p.n) j (omega arith)

-- Stamps: a whole value of a kept strategy lies between −((n + 1) · 2L + |t|) and 0.
pub stamps_small : (p : Problem) (t : ℤ) (τ : Strategy) (L : ℕ) → Within p L → Policy (system_at p t) τ
    → (j : ℕ) → j ≤ p.n → (v : ℤ) → values (system_at p t) τ j ≡ fin v
    → (down v ≤ suc p.n * (2 * L) + nat_abs t + up v) × (v ≤ℤ pos 0)
unfolding system_at
stamps_small p t τ L within policy j h v e =
    ((stamps_floor p t τ L within j h).floor v e, fin_below (rw e at (policy.below j (omega arith))))

-- With at most 32 variables they lie between −(64 L + |t|) and 0.
pub stamps_at_most_32 : (p : Problem) (t : ℤ) (τ : Strategy) (L : ℕ) → Within p L → Policy (system_at p t) τ → suc p.n ≤ 32
    → (j : ℕ) → j ≤ p.n → (v : ℤ) → values (system_at p t) τ j ≡ fin v → (down v ≤ 64 * L + nat_abs t + up v) × (v ≤ℤ pos 0)
stamps_at_most_32 p t τ L within policy b j h v e =
    let r = stamps_small p t τ L within policy j h v e in
    (omega (arith, r.0, mul-le-mul_right (2 * L) b), r.1)
