-- The numbers that decide. Where every finite coefficient lies within ±L and 2 · (n + 1) · L ≤ T, blocking the system at
-- T is class 3's list and saving it at −T − 1 is class 2's. A closed walk that uses the objective can be cut to one of
-- at most n + 1 arcs that uses it; each arc weighs within ±2L, so that at T it weighs at least zero, and at −T − 1 below
-- zero. A closed walk that does not use the objective weighs the same at every t (Objective.antt). Both ends are one
-- argument: arcs by any choice of rows, and weights under a sign.
use Prim.Native.Nat.{ℕ, suc, ◌+◌, ◌*◌, ◌≤◌, ◌<◌}
use mathlib.Core.Path.{◌≡◌, refl}
use native.Mathlib.Omega.{arith}
use native.Mathlib.Decide.{ℕ_discrete}
use native.Mathlib.Nat.{mul-le-mul_right}
use lib.IntN.{ℤ, pos, neg_ℤ, nat_abs, ◌+ℤ◌, ◌-ℤ◌, neg_ℤ-+ℤ}
use lib.Signed.{◌≤ℤ◌, ◌<ℤ◌}
use Rattle.definitions.specs.Problem.{Problem}
use Rattle.definitions.specs.Certificate.{Strategy, Reachable, Walk, stop, step, raise, ArcBy, Leads, Arc, PicksCount, BelowZero, AcceptedInfeasible, RowLeads, RowArc, RowPicksCount, AcceptedUnbounded, AtLeastZero}
use Rattle.definitions.proofs.Whole.{up, down, whole, plus_read, minus_read, neg_read, abs_read, abs_show}
use Rattle.definitions.proofs.Tropical.{plus_zero}
use Rattle.definitions.proofs.Raise.{raised, unraised, raise_zero}
use Rattle.duality.specs.Circuits.{Circuit, UsesObjective, ObjectiveArc, RowObjectiveArc}
use Rattle.duality.specs.System.{system_at}
use Rattle.duality.specs.Height.{Bounded}
use Rattle.duality.specs.Picks.{NoneAbove}
use Rattle.duality.specs.Within.{Within, Enough, upper, lower}
use Rattle.duality.proofs.Walks.{Brief, brief}
use Rattle.duality.proofs.Reach.{reach_keep, circuit_map, uses_map}
use Rattle.duality.proofs.Strong.{bound, bounded}
use Rattle.duality.proofs.Cycles.{cycle_circuit, below_exactly, at_least_exactly, objective_exactly, row_objective_exactly}
use Rattle.duality.proofs.Objective.{By, ByObjective, weight_at, arc_at, Kind, circuit_moved, Picked, picked_kind, RowPicked, row_picked_kind}

-- ---- a closed walk that uses the objective outweighs

-- A sign: weights as they are, or negated.
record Sign (f : ℤ → ℤ) : Type 0 where
  sum : (a b : ℤ) → f (a +ℤ b) ≡ f a +ℤ f b
  size : (a : ℤ) → down (f a) ≤ up (f a) + nat_abs a

as_is : Sign (λ a. a)
as_is = record { sum = λ a b. refl; size = λ a. omega (arith, abs_read a) }

negated : Sign neg_ℤ
negated = record { sum = neg_ℤ-+ℤ; size = λ a. omega (arith, abs_read a, neg_read a) }

-- A choice of rows that stays inside the problem.
record Choice (p : Problem) (C : ℕ → ℕ → ℕ → Type 0) : Type 0 where
  to : (i j l : ℕ) → C i j l → l ≤ p.n
  row : (i j l : ℕ) → j ≤ p.n → C i j l → i ≤ p.m

-- A walk at t of n arcs, each of which weighs at least −d.
record Heavy (p : Problem) (C : ℕ → ℕ → ℕ → Type 0) (f : ℤ → ℤ) (t : ℤ) (j k n d : ℕ) : Type 0 where
  weight : ℤ
  walk : Walk (By p C t) j k n weight
  heavy : down (f weight) ≤ up (f weight) + n * d

-- A reachable closed walk at t that weighs at least t − d.
record Outweighs (A : ℕ → ℕ → ℤ → Type 0) (f : ℤ → ℤ) (t : ℤ) (Start : ℕ → Type 0) (Leads : ℕ → ℕ → Type 0) (d : ℕ) : Type 0 where
  weight : ℤ
  circuit : Circuit Start Leads A weight
  heavy : up (f t) + down (f weight) ≤ up (f weight) + down (f t) + d

module _ (p : Problem) (L : ℕ) (within : Within p L) {C : ℕ → ℕ → ℕ → Type 0} (choice : Choice p C) {f : ℤ → ℤ} (sign : Sign f)
    (t : ℤ) (upwards : down (f t) ≤ up (f t)) where
  -- The coefficients of an arc differ by at most 2L.
  spread : {i j l : ℕ} {w u : ℤ} → i ≤ p.m → j ≤ p.n → l ≤ p.n → (c : ArcBy p u i j l w)
      → down (f (c.b -ℤ c.a)) ≤ up (f (c.b -ℤ c.a)) + 2 * L
  spread {i} {j} {l} hi hj hl c =
      let a = c.a in
      let b = c.b in
      let d : nat_abs (b -ℤ a) ≤ 2 * L = abs_show (b -ℤ a)
      (omega (arith, minus_read b a, abs_read a, abs_read b, within.left i j a hi hj c.left_is, within.right i l b hi hl c.right_is))
      (omega (arith, minus_read b a, abs_read a, abs_read b, within.left i j a hi hj c.left_is, within.right i l b hi hl c.right_is)) in
      omega (arith, sign.size (b -ℤ a))

  -- Under the sign no raise weighs below zero.
  raise_up : (i : ℕ) → down (f (raise p t i)) ≤ up (f (raise p t i))
  raise_up i = go (ℕ_discrete i p.m)
    where
      go : Dec (i ≡ p.m) → down (f (raise p t i)) ≤ up (f (raise p t i))
      go (yes e) = rw (e, raised) upwards
      go (no d) = rw (unraised p t i d) (omega (arith, sign.size (pos 0)))

  -- An arc weighs at least −2L, and so a walk of n arcs at least −n · 2L.
  arc_heavy : {j l : ℕ} {u w : ℤ} (a : By p C u j l w) → j ≤ p.n → down (f (weight_at t a)) ≤ up (f (weight_at t a)) + 2 * L
  arc_heavy {j} {l} a h =
      let x = a.by.b -ℤ a.by.a in
      let r = raise p t a.row in
      let s = spread (choice.row a.row j l h a.chosen) h (choice.to a.row j l a.chosen) a.by in
      rw (sign.sum x r) (omega (arith, s, raise_up a.row, plus_read (f x) (f r)))

  walk_heavy : {u : ℤ} {j k n : ℕ} {w : ℤ} → Walk (By p C u) j k n w → j ≤ p.n → Heavy p C f t j k n (2 * L)
  walk_heavy stop h = record { weight = pos 0; walk = stop; heavy = omega (arith, sign.size (pos 0)) }
  walk_heavy (step {j = j} {l = l} {n = n} a q) h = on (walk_heavy q (choice.to a.row j l a.chosen))
    where
      on : {k : ℕ} → Heavy p C f t l k n (2 * L) → Heavy p C f t j k (suc n) (2 * L)
      on r =
          let v = weight_at t a in
          record {
            weight = v +ℤ r.weight;
            walk = step (arc_at t a) r.walk;
            heavy = rw (sign.sum v r.weight) (omega (arith, arc_heavy a h, r.heavy, plus_read (f v) (f r.weight)));
          }

  -- A closed walk that uses the objective gives one at t that weighs at least t − (n + 1) · 2L.
  by_outweighs : {Start : ℕ → Type 0} {Leads : ℕ → ℕ → Type 0} → ((j : ℕ) → Reachable Start Leads j → j ≤ p.n)
      → UsesObjective Start Leads (ByObjective p C) (By p C (pos 0)) → Outweighs (By p C t) f t Start Leads (suc p.n * (2 * L))
  by_outweighs {Start} {Leads} low u =
      close (brief (record { inside = λ j l w a. inside j l a.row a.chosen }) (inside u.at u.to p.m u.arc.chosen) u.back)
    where
      inside : (j l i : ℕ) → C i j l → l < suc p.n
      inside j l i c = omega (arith, choice.to i j l c)

      first : By p C (pos 0) u.at u.to u.w
      first = record { row = p.m; chosen = u.arc.chosen; by = u.arc.by }

      joined : (k : ℕ) → k < suc p.n → Heavy p C f t u.to u.at k (2 * L)
          → Outweighs (By p C t) f t Start Leads (suc p.n * (2 * L))
      joined k few r =
          let x = first.by.b -ℤ first.by.a in
          let v = weight_at t first in
          let low-enough = low u.at u.reachable in
          let s = spread (choice.row p.m u.at u.to low-enough u.arc.chosen) low-enough
          (choice.to p.m u.at u.to u.arc.chosen) first.by in
          let e : f v ≡ f x +ℤ f t = rw (sign.sum x (raise p t p.m), raised) in
          let few' : k ≤ p.n = omega arith in
          record {
            weight = v +ℤ r.weight;
            circuit = record { at = u.at; arcs = k; reachable = u.reachable; walk = step (arc_at t first) r.walk };
            heavy = rw (sign.sum v r.weight, e)
                (omega (
                  arith,
                  s,
                  r.heavy,
                  plus_read (f x) (f t),
                  plus_read (f x +ℤ f t) (f r.weight),
                  mul-le-mul_right (2 * L) few',
                ));
          }

      close : Brief (By p C (pos 0)) (suc p.n) u.to u.at → Outweighs (By p C t) f t Start Leads (suc p.n * (2 * L))
      close b = joined b.arcs b.few (walk_heavy b.walk (choice.to p.m u.at u.to u.arc.chosen))

-- The same of any kind of arcs.
outweighs : {p : Problem} {C : ℕ → ℕ → ℕ → Type 0} {A : ℤ → ℕ → ℕ → ℤ → Type 0} {O : ℕ → ℕ → ℤ → Type 0} {Leads : ℕ → ℕ → Type 0}
    {Start : ℕ → Type 0} → Kind p C A O Leads → (L : ℕ) → Within p L → Choice p C → {f : ℤ → ℤ} → Sign f
    → (t : ℤ) → down (f t) ≤ up (f t) → ((j : ℕ) → Reachable Start Leads j → j ≤ p.n)
    → UsesObjective Start Leads O (A (pos 0)) → Outweighs (A t) f t Start Leads (suc p.n * (2 * L))
outweighs {p} kind L within choice sign t upwards low q =
    let r = by_outweighs p L within choice sign t upwards low (uses_map kind.by_objective_lem (kind.by (pos 0)) q) in
    record { weight = r.weight; circuit = circuit_map (λ j h. h) (λ j l h. h) (kind.arc t) r.circuit; heavy = r.heavy }

-- ---- class 3

-- Its choice stays inside.
picked_choice : (p : Problem) (picks : Strategy) → NoneAbove (suc p.m) (suc p.n) picks → Choice p (Picked p picks)
picked_choice p picks h = record { to = λ i j l c. c.1; row = λ i j l k c. omega (arith, h j (omega arith)) }

-- From a start inside the problem, reachable variables are inside.
pub reached_inside : {Start : ℕ → Type 0} (p : Problem) (picks : Strategy) → ((j : ℕ) → Start j → j ≤ p.n)
    → (j : ℕ) → Reachable Start (Leads p picks) j → j ≤ p.n
reached_inside p picks inside j r =
    (reach_keep {L' = Leads p picks} (λ j. j ≤ p.n) (λ j h. (h, inside j h)) (λ j l _ a. (a, a.inside)) r).1

-- Where class 3 accepts, reached cycles weigh below zero at every t.
pub infeasible_below : {Start : ℕ → Type 0} (p : Problem) (picks : Strategy) (t : ℤ) → AcceptedInfeasible Start p picks → BelowZero Start p picks t
infeasible_below {Start} p picks t c w q =
    (below_exactly Start p picks (pos 0)).0 c.below_zero w
    (circuit_moved (picked_kind p picks) t (pos 0) ((objective_exactly Start p picks).0 c.no_objective) (cycle_circuit q))

-- Where the picks count and reached cycles weigh below zero at T, class 3 accepts.
pub below_infeasible : {Start : ℕ → Type 0} (p : Problem) (L T : ℕ) (picks : Strategy) → ((j : ℕ) → Start j → j ≤ p.n) → Within p L
    → Enough p.n L T → NoneAbove (suc p.m) (suc p.n) picks → PicksCount Start p picks → BelowZero Start p picks (upper T)
    → AcceptedInfeasible Start p picks
below_infeasible {Start} p L T picks inside within h above count below = record {
  picks_count = count;
  no_objective = (objective_exactly Start p picks).1 none;
  below_zero = λ w c. walks w (circuit_moved (picked_kind p picks) (pos 0) (upper T) none (cycle_circuit c));
}
  where
    walks : (w : ℤ) → Circuit Start (Leads p picks) (Arc p picks (upper T)) w → w <ℤ pos 0
    walks = (below_exactly Start p picks (upper T)).0 below

    none : UsesObjective Start (Leads p picks) (ObjectiveArc p picks) (Arc p picks (pos 0)) → ⊥
    none q =
        let r = outweighs (picked_kind p picks) L within (picked_choice p picks above) as_is (upper T) (omega arith)
        (reached_inside p picks inside) q in
        omega (whole, walks r.weight r.circuit, r.heavy)

-- ---- class 2

-- Its choice stays inside.
row_picked_choice : (p : Problem) (picks : Strategy) → NoneAbove (suc p.n) (suc p.m) picks → Choice p (RowPicked p picks)
row_picked_choice p picks h = record { to = λ i j l c. omega (arith, h i (omega arith)); row = λ i j l k c. c.0 }

-- The same by strategies of rows.
pub row_reached_inside : {Start : ℕ → Type 0} (p : Problem) (picks : Strategy) → ((j : ℕ) → Start j → j ≤ p.n)
    → NoneAbove (suc p.n) (suc p.m) picks → (j : ℕ) → Reachable Start (RowLeads p picks) j → j ≤ p.n
row_reached_inside p picks inside h j r = (reach_keep {L' = RowLeads p picks} (λ j. j ≤ p.n) (λ j b. (b, inside j b))
    (λ j l _ a. (a, omega (arith, h a.row (omega (arith, a.inside)), a.picked))) r).1

-- Where class 2 accepts, reached cycles weigh zero or more at every t.
pub unbounded_above : {Start : ℕ → Type 0} (p : Problem) (picks : Strategy) (t : ℤ) → AcceptedUnbounded Start p picks → AtLeastZero Start p picks t
unbounded_above {Start} p picks t c w q =
    (at_least_exactly Start p picks (pos 0)).0 c.zero_or_more w
    (circuit_moved (row_picked_kind p picks) t (pos 0) ((row_objective_exactly Start p picks).0 c.no_objective) (cycle_circuit q))

-- Where the rows in use pick and reached cycles weigh zero or more at −T − 1, class 2 accepts.
pub above_unbounded : {Start : ℕ → Type 0} (p : Problem) (L T : ℕ) (picks : Strategy) → ((j : ℕ) → Start j → j ≤ p.n) → Within p L
    → Enough p.n L T → NoneAbove (suc p.n) (suc p.m) picks → RowPicksCount Start p picks → AtLeastZero Start p picks (lower T)
    → AcceptedUnbounded Start p picks
above_unbounded {Start} p L T picks inside within h above count more = record {
  picks_count = count;
  no_objective = (row_objective_exactly Start p picks).1 none;
  zero_or_more = λ w c. walks w (circuit_moved (row_picked_kind p picks) (pos 0) (lower T) none (cycle_circuit c));
}
  where
    walks : (w : ℤ) → Circuit Start (RowLeads p picks) (RowArc p picks (lower T)) w → pos 0 ≤ℤ w
    walks = (at_least_exactly Start p picks (lower T)).0 more

    none : UsesObjective Start (RowLeads p picks) (RowObjectiveArc p picks) (RowArc p picks (pos 0)) → ⊥
    none q =
        let r = outweighs (row_picked_kind p picks) L within (row_picked_choice p picks above) negated (lower T) (omega arith)
        (row_reached_inside p picks inside above) q in
        omega (whole, walks r.weight r.circuit, r.heavy, neg_read r.weight)

-- ---- the limit

-- With at most 32 variables T = 64 · L is enough.
pub top_enough : (n L : ℕ) → suc n ≤ 32 → 2 * (suc n * L) ≤ 64 * L
top_enough n L h = omega (arith, mul-le-mul_right L h)

-- Every problem lies within some limit: its coefficients are finitely many.
pub within_some : (p : Problem) → Within p (bound (system_at p (pos 0)))
unfolding system_at
within_some p = record {
  left = λ i j a h k e. b.left i j a (omega arith) (omega arith) e;
  right = λ i j a h k e. b.right i j a (omega arith) (omega arith) (rw (raise_zero, plus_zero) e);
}
  where
    b : Bounded (system_at p (pos 0)) (bound (system_at p (pos 0)))
    b = bounded (system_at p (pos 0))
