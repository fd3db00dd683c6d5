-- One look decides every trial. Let x be the values of a strategy τ that is kept for the inequalities under the caps of a look, and S
-- the second side at x. Where −t is at most S and x solves the inequalities, x solves the system at t: its first side is at most 0.
-- Else τ blocks at t from the second list, once a variable without a pick picks the objective: along an arc of the
-- objective values fall by at least 1, so this is one more step of the policy iteration.
use Prim.Native.Nat.{ℕ, suc, ◌+◌, ◌*◌, ◌≤◌, ◌<◌}
use mathlib.Core.Path.{◌≡◌, refl, ap, sym, subst, ◌∙◌}
use mathlib.Core.Logic.{◌⊎◌, inl, inr, ⊎_elim}
use native.Mathlib.Omega.{arith}
use native.Mathlib.Nat.{mul-le-mul_right}
use lib.IntN.{ℤ, pos, neg_ℤ, ◌+ℤ◌, ◌-ℤ◌}
use lib.Signed.{◌≤ℤ◌, ◌<ℤ◌}
use Rattle.base.proofs.Numbers.{nat_le_or_lt}
use Rattle.definitions.specs.Tropical.{Trop, bot, fin, plus, ◌⊑◌, blank_least, whole_least, Finite}
use Rattle.definitions.specs.Problem.{Problem, Point, side}
use Rattle.definitions.specs.Certificate.{Strategy, Second, Walk, stop, step, Reachable, start, onward}
use Rattle.definitions.proofs.Whole.{up, down, whole, plus_read, minus_read, neg_read, abs_read}
use Rattle.definitions.proofs.Tropical.{not_finite_bot, blank_or_finite, finite_above, fin_below, ⊑_refl, ⊑_trans, ⊑_of_eq, plus_zero, bot_plus, plus_fin, plus_parts, plus_mono, largest_above, largest_least, largest_ext}
use Rattle.definitions.proofs.Raise.{raised, unraised}
use Rattle.duality.specs.System.{side_of, Solves, Leads, Arc, HasPick, Blocks, system_at, rules_of}
use Rattle.duality.specs.Values.{difference, weights, exits, values, Policy}
use Rattle.duality.specs.Gains.{Entry}
use Rattle.duality.specs.Within.{Within, lower}
use Rattle.duality.specs.Look.{Capped, Far, second_at}
use Rattle.duality.proofs.Walks.{Brief, brief, walk_append, walk_keep}
use Rattle.duality.proofs.Longest.{Stable, potential_walk, stable_potential}
use Rattle.duality.proofs.Weights.{difference_bot, difference_back, weight_picked, exit_picked, round_terminal, entry_arc, arc_entry, entries_arcs, arcs_entries, values_stable}
use Rattle.duality.proofs.Policy.{Same, Lowered, closed_negative}
use Rattle.duality.proofs.Ends.{blank_blocks}
use Rattle.duality.proofs.Solutions.{plus_swap, side_raised}

-- ---- the system at t beside the inequalities

-- The right coefficients of an inequality are those at every t.
pub right_at : (p : Problem) (caps : ℕ → ℤ) (t : ℤ) (i l : ℕ) → i < p.m → (system_at p t).right i l ≡ (rules_of p caps).right i l
unfolding system_at rules_of
right_at p caps t i l h = rw (unraised p t i (λ e. omega arith)) (plus_zero (p.right i l))

-- The objective's are raised by t.
objective_at : (p : Problem) (t : ℤ) (l : ℕ) → (system_at p t).right p.m l ≡ plus (p.right p.m l) (fin t)
unfolding system_at
objective_at p t l = rw raised refl

-- The arcs of a variable that picks it.
objective_weight : (p : Problem) (t : ℤ) (τ : Strategy) (j l : ℕ) → τ j ≡ p.m
    → weights (system_at p t) τ j l ≡ difference (plus (p.right p.m l) (fin t)) (p.left p.m j)
unfolding system_at
objective_weight p t τ j l e =
    weight_picked (system_at p t) (τ j) j l (omega arith)
    ∙ ap (λ i. difference ((system_at p t).right i l) (p.left i j)) e
    ∙ ap (λ z. difference z (p.left p.m j)) (objective_at p t l)

-- ---- inequalities alone, and the system at t

module _ (p : Problem) (caps : ℕ → ℤ) (t : ℤ) {Start : ℕ → Type 0} {τ : Strategy} (b : Blocks (rules_of p caps) Start τ) where
  -- What a strategy that blocks by inequalities alone reaches at t, it reaches by these,
  rules_reached : {j : ℕ} → Reachable Start (Leads (system_at p t) τ) j → Reachable Start (Leads (rules_of p caps) τ) j
  unfolding rules_of system_at
  rules_reached (start h) = start h
  rules_reached (onward {j = j} {l = l} r a) =
      let q = rules_reached r in
      let h : τ j < p.m = (b.counts j q).picked in
      onward q (record { picked = h; inside = a.inside; right = subst Finite (right_at p caps t (τ j) l h) a.right })

  rules_arc : (j l : ℕ) (w : ℤ) → Reachable Start (Leads (rules_of p caps) τ) j → Arc (system_at p t) τ j l w
      → Arc (rules_of p caps) τ j l w × Reachable Start (Leads (rules_of p caps) τ) l
  unfolding rules_of system_at
  rules_arc j l w r a =
      let h : τ j < p.m = (b.counts j r).picked in
      let e : p.right (τ j) l ≡ fin a.b = sym (right_at p caps t (τ j) l h) ∙ a.right_is in (
        record { picked = h; inside = a.inside; a = a.a; b = a.b; left_is = a.left_is; right_is = e; weighs = a.weighs },
        onward r (record { picked = h; inside = a.inside; right = record { whole = a.b; is = e } }),
      )

  -- so that it blocks at every t.
  pub rules_block : Blocks (system_at p t) Start τ
  unfolding rules_of system_at
  rules_block = record {
    counts = λ j r. let c = b.counts j (rules_reached r) in record { picked = omega (arith, c.picked); left = c.left };
    negative = λ w c. let q = rules_reached c.reachable in b.negative w (record {
      at = c.at;
      arcs = c.arcs;
      reachable = q;
      walk = (walk_keep {B = Arc (rules_of p caps) τ} (Reachable Start (Leads (rules_of p caps) τ)) rules_arc q c.walk).0;
    });
  }

-- Blank start variables: the strategy blocks from the start at every t.
pub look_blank : (p : Problem) (caps : ℕ → ℤ) (τ : Strategy) → Policy (rules_of p caps) τ → (Start : ℕ → Type 0)
    → ((j : ℕ) → Start j → (j ≤ p.n) × (values (rules_of p caps) τ j ≡ bot)) → (t : ℤ) → Blocks (system_at p t) Start τ
unfolding rules_of
look_blank p caps τ policy Start blank t =
    rules_block p caps t (blank_blocks (rules_of p caps) τ policy Start (λ j h. (omega (arith, (blank j h).0), (blank j h).1)))

-- ---- where the trial is possible

-- What is at least −t, raised by t, is at least 0,
raised_zero : {z : Trop} (t : ℤ) → fin (neg_ℤ t) ⊑ z → fin (pos 0) ⊑ plus z (fin t)
unfolding plus
raised_zero t (whole_least {b = b} h) = let r : pos 0 ≤ℤ (b +ℤ t) = omega (whole, neg_read t, plus_read b t) in whole_least r

-- and the other way.
zero_raised : (z : Trop) (t : ℤ) → fin (pos 0) ⊑ plus z (fin t) → fin (neg_ℤ t) ⊑ z
unfolding plus
zero_raised bot t h = absurd (not_finite_bot (finite_above h))
zero_raised (fin b) t h = let c : pos 0 ≤ℤ (b +ℤ t) = fin_below h in let r : neg_ℤ t ≤ℤ b = omega (whole, neg_read t, plus_read b t) in whole_least r

module _ (p : Problem) (C : ℕ) (caps : ℕ → ℤ) (capped : Capped p C caps) where
  -- Under the caps the first side is at most 0.
  pub first_under : (x : Point) → ((j : ℕ) → j ≤ p.n → x j ⊑ fin (caps j)) → side p.n (p.left p.m) x ⊑ fin (pos 0)
  unfolding side
  first_under x below = largest_least _ (suc p.n) (λ j h. ⊎_elim (blank j) (listed j (omega arith)) (blank_or_finite (p.left p.m j)))
    where
      blank : (j : ℕ) → p.left p.m j ≡ bot → plus (p.left p.m j) (x j) ⊑ fin (pos 0)
      blank j e = rw (e, bot_plus) blank_least

      listed : (j : ℕ) → j ≤ p.n → Finite (p.left p.m j) → plus (p.left p.m j) (x j) ⊑ fin (pos 0)
      listed j h f =
          let c : caps j ≡ neg_ℤ f.whole = capped.listed j f.whole h f.is in
          let z : (f.whole +ℤ neg_ℤ f.whole) ≤ℤ pos 0 = omega (whole, plus_read f.whole (neg_ℤ f.whole), neg_read f.whole) in
          rw f.is (⊑_trans (plus_mono (⊑_refl (fin f.whole)) (below j h)) (rw (c, plus_fin) (whole_least z)))

  -- A point under the caps that solves the inequalities solves the system at each t with −t at most its second side.
  pub look_solves : (x : Point) → ((j : ℕ) → j ≤ p.n → x j ⊑ fin (caps j)) → Solves (rules_of p caps) x
      → (t : ℤ) → fin (neg_ℤ t) ⊑ second_at p x → Solves (system_at p t) x
  unfolding system_at rules_of side
  look_solves x below solves t h i r = ⊎_elim (λ (b : p.m ≤ i). objective (omega arith)) (λ (b : i < p.m). rule b) (nat_le_or_lt p.m i)
    where
      rule : i < p.m → side_of (system_at p t) ((system_at p t).left i) x ⊑ side_of (system_at p t) ((system_at p t).right i) x
      rule b = rw (unraised p t i (λ e. omega arith)) (⊑_trans (solves i b) (⊑_of_eq (largest_ext _ _ (suc p.n) (λ j _. ap (λ z. plus z (x j)) (sym (plus_zero (p.right i j)))))))

      objective : i ≡ p.m → side_of (system_at p t) ((system_at p t).left i) x ⊑ side_of (system_at p t) ((system_at p t).right i) x
      objective e = rw (e, raised, side_raised (p.right p.m) x (fin t) (suc p.n)) (⊑_trans (first_under x below) (raised_zero t h))

-- ---- where it is not

-- A walk of n entries, each at least −D, weighs at least −(n · D).
walk_floor : {W : ℕ → ℕ → Trop} {N j k n : ℕ} {w : ℤ} (D : ℕ) → ((j l : ℕ) (w : ℤ) → j < N → Entry W N j l w → down w ≤ D + up w)
    → j < N → Walk (Entry W N) j k n w → down w ≤ n * D + up w
walk_floor D floor h stop = omega arith
walk_floor D floor h (step {j = j} {l = l} {w = w} {v = v} a r) =
    omega (arith, plus_read w v, floor j l w h a, walk_floor D floor a.inside r)

module _ (p : Problem) (L T C : ℕ) (caps : ℕ → ℤ) (within : Within p L) (far : Far p.n L T C) (capped : Capped p C caps)
    (τ : Strategy) (policy : Policy (rules_of p caps) τ) (picks : (j : ℕ) → j ≤ p.n → τ j ≤ p.m)
    (t : ℤ) (lowest : lower T ≤ℤ t) (above : (fin (neg_ℤ t) ⊑ second_at p (values (rules_of p caps) τ)) → ⊥) where
  stable : Stable (weights (rules_of p caps) τ) (exits (rules_of p caps) τ) (suc p.n) (values (rules_of p caps) τ)
  unfolding rules_of
  stable = values_stable (rules_of p caps) τ policy.negative

  -- A variable without a pick stands at its cap.
  at_cap : (j : ℕ) → τ j ≡ p.m → values (rules_of p caps) τ j ≡ fin (caps j)
  unfolding values rules_of
  at_cap j e = round_terminal (rules_of p caps) τ (suc p.n) j (omega arith)

  -- Each term of the second side is below −t.
  term_below : (l : ℕ) → l ≤ p.n → (fin (neg_ℤ t) ⊑ plus (p.right p.m l) (values (rules_of p caps) τ l)) → ⊥
  unfolding side
  term_below l h b = above (⊑_trans b (largest_above (λ l. plus (p.right p.m l) (values (rules_of p caps) τ l)) (suc p.n) l (omega arith)))

  -- ---- closed walks

  -- A variable that picks an inequality keeps its arcs,
  same : (j : ℕ) → τ j < p.m
      → Same (weights (rules_of p caps) τ) (weights (system_at p t) τ) (exits (rules_of p caps) τ) (exits (system_at p t) τ) j
  unfolding system_at rules_of
  same j h = record {
    entries = λ l. weight_picked (system_at p t) (τ j) j l (omega arith)
        ∙ ap (λ z. difference z (p.left (τ j) j)) (right_at p caps t (τ j) l h)
        ∙ sym (weight_picked (rules_of p caps) (τ j) j l h);
    exit = exit_picked (system_at p t) (τ j) j (omega arith) ∙ sym (exit_picked (rules_of p caps) (τ j) j h);
  }

  -- and along the arcs of the objective the values fall.
  falls : (j l : ℕ) → j ≤ p.n → l ≤ p.n → τ j ≡ p.m → (values (rules_of p caps) τ j ⊑ plus (weights (system_at p t) τ j l) (values (rules_of p caps) τ l)) → ⊥
  falls j l h i e b = ⊎_elim blank listed (blank_or_finite (p.left p.m j))
    where
      c : fin (caps j) ⊑ plus (difference (plus (p.right p.m l) (fin t)) (p.left p.m j)) (values (rules_of p caps) τ l)
      c = rw (at_cap j e, objective_weight p t τ j l e) at b

      blank : p.left p.m j ≡ bot → ⊥
      blank z = not_finite_bot (finite_above (rw (z, difference_bot, bot_plus) at c))

      listed : Finite (p.left p.m j) → ⊥
      listed f =
          let k : caps j ≡ neg_ℤ f.whole = capped.listed j f.whole h f.is in
          let z : (f.whole +ℤ caps j) ≡ pos 0 = omega (whole, k, plus_read f.whole (caps j), neg_read f.whole) in
          let d : plus (fin f.whole) (fin (caps j)) ⊑ plus (plus (p.right p.m l) (fin t)) (values (rules_of p caps) τ l) =
          ⊑_trans (plus_mono (⊑_refl (fin f.whole)) (rw f.is at c)) (⊑_of_eq (difference_back _ _ f.whole)) in
          term_below l i (zero_raised _ t (rw (plus_fin, z, plus_swap) at d))

  lowered : (j : ℕ) → j ≤ p.n → τ j ≡ p.m
      → Lowered (weights (system_at p t) τ) (exits (system_at p t) τ) (suc p.n) (values (rules_of p caps) τ) j
  unfolding system_at
  lowered j h e = record { falls = λ l i. falls j l h (omega arith) e; closed = exit_picked (system_at p t) (τ j) j (omega arith) }

  changes : (j : ℕ) → j < suc p.n
      → Same (weights (rules_of p caps) τ) (weights (system_at p t) τ) (exits (rules_of p caps) τ) (exits (system_at p t) τ) j
      ⊎ Lowered (weights (system_at p t) τ) (exits (system_at p t) τ) (suc p.n) (values (rules_of p caps) τ) j
  changes j h = ⊎_elim
      (λ (b : p.m ≤ τ j). inr (lowered j (omega arith) (omega (arith, picks j (omega arith)))))
      (λ (b : τ j < p.m). inl (same j b))
      (nat_le_or_lt p.m (τ j))

  negative : (j n : ℕ) (w : ℤ) → Walk (Arc (system_at p t) τ) j j (suc n) w → w <ℤ pos 0
  unfolding rules_of system_at
  negative j n w r =
      closed_negative (weights (rules_of p caps) τ) (weights (system_at p t) τ) (exits (rules_of p caps) τ) (exits (system_at p t) τ) (suc p.n)
      (values (rules_of p caps) τ) stable changes
      (λ j n w q. policy.negative j n w (entries_arcs (rules_of p caps) τ q)) j n w (arcs_entries (system_at p t) τ r)

  -- ---- what is reached

  -- A variable of the second list, and a walk by inequalities alone from it to j.
  record Tied (j : ℕ) : Type 0 where
    inside : j ≤ p.n
    from : ℕ
    second : Second p from
    arcs : ℕ
    weight : ℤ
    walk : Walk (Entry (weights (rules_of p caps) τ) (suc p.n)) from j arcs weight

  -- A variable that picks an inequality leads on by it,
  rule_onward : (j l : ℕ) → Tied j → τ j < p.m → Leads (system_at p t) τ j l → Tied l
  unfolding rules_of system_at
  rule_onward j l q b a =
      let f : Finite (p.left (τ j) j) = policy.valid j (omega (arith, q.inside)) b in
      let g : Finite (p.right (τ j) l) = subst Finite (right_at p caps t (τ j) l b) a.right in
      let arc : Arc (rules_of p caps) τ j l (g.whole -ℤ f.whole) =
      record { picked = b; inside = a.inside; a = f.whole; b = g.whole; left_is = f.is; right_is = g.is; weighs = refl } in
      record {
        inside = omega (arith, a.inside);
        from = q.from;
        second = q.second;
        arcs = q.arcs + 1;
        weight = q.weight +ℤ ((g.whole -ℤ f.whole) +ℤ pos 0);
        walk = walk_append q.walk (step (arc_entry (rules_of p caps) τ arc) stop);
      }

  -- and one that picks the objective to the second list.
  objective_onward : (j l : ℕ) → τ j ≡ p.m → Leads (system_at p t) τ j l → Tied l
  unfolding system_at
  objective_onward j l e a =
      let f : Finite (p.right p.m l) = (plus_parts (subst Finite (objective_at p t l) (subst (λ i. Finite ((system_at p t).right i l)) e a.right))).0 in
      let b : l ≤ p.n = omega (arith, a.inside) in
      record { inside = b; from = l; second = record { inside = b; right = f }; arcs = 0; weight = pos 0; walk = stop }

  -- So every variable that is reached is tied to the second list.
  reached : {j : ℕ} → Reachable (Second p) (Leads (system_at p t) τ) j → Tied j
  reached (start {j = j} b) = record { inside = b.inside; from = j; second = b; arcs = 0; weight = pos 0; walk = stop }
  reached (onward {j = j} {l = l} r a) = let q = reached r in ⊎_elim
      (λ (b : p.m ≤ τ j). objective_onward j l (omega (arith, picks j q.inside)) a)
      (λ (b : τ j < p.m). rule_onward j l q b a)
      (nat_le_or_lt p.m (τ j))

  -- An entry weighs at least −2L.
  entry_floor : (j l : ℕ) (w : ℤ) → j < suc p.n → Entry (weights (rules_of p caps) τ) (suc p.n) j l w → down w ≤ 2 * L + up w
  unfolding rules_of
  entry_floor j l w h e = of_arc (entry_arc (rules_of p caps) τ e)
    where
      of_arc : Arc (rules_of p caps) τ j l w → down w ≤ 2 * L + up w
      of_arc a = omega (
        whole,
        a.weighs,
        minus_read a.b a.a,
        abs_read a.a,
        abs_read a.b,
        within.left (τ j) j a.a (omega (arith, a.picked)) (omega arith) a.left_is,
        within.right (τ j) l a.b (omega (arith, a.picked)) (omega (arith, a.inside)) a.right_is,
      )

  -- A variable that is reached does not stand at C: the second side would be at least T + 1.
  not_far : (j : ℕ) → Tied j → τ j ≡ p.m → p.left p.m j ≡ bot → ⊥
  not_far j q e z = term_below q.from q.second.inside (⊑_trans (whole_least far_enough) (⊑_trans (⊑_of_eq (sym (plus_fin _ _))) (plus_mono (⊑_of_eq (sym q.second.right.is)) rises)))
    where
      b : Brief (Entry (weights (rules_of p caps) τ) (suc p.n)) (suc p.n) q.from j
      b = brief (record { inside = λ j l w a. a.inside }) (omega (arith, q.second.inside)) q.walk

      rises : fin (b.weight +ℤ pos C) ⊑ values (rules_of p caps) τ q.from
      rises = rw (at_cap j e, capped.others j q.inside z, plus_fin) at (potential_walk (stable_potential _ _ (suc p.n) stable) (omega (arith, q.second.inside)) b.walk)

      far_enough : neg_ℤ t ≤ℤ (q.second.right.whole +ℤ (b.weight +ℤ pos C))
      far_enough = let few : b.arcs ≤ p.n = omega (arith, b.few) in omega (
        whole,
        lowest,
        far,
        neg_read t,
        plus_read q.second.right.whole (b.weight +ℤ pos C),
        plus_read b.weight (pos C),
        abs_read q.second.right.whole,
        within.right p.m q.from q.second.right.whole (omega arith) q.second.inside q.second.right.is,
        walk_floor (2 * L) entry_floor (omega (arith, q.second.inside)) b.walk,
        mul-le-mul_right (2 * L) few,
      )

  -- Every variable that is reached has a pick that counts.
  counts : (j : ℕ) → Reachable (Second p) (Leads (system_at p t) τ) j → HasPick (system_at p t) τ j
  unfolding system_at rules_of
  counts j r = let q = reached r in ⊎_elim
      (λ (b : p.m ≤ τ j). let e : τ j ≡ p.m = omega (arith, picks j q.inside) in ⊎_elim
      (λ z. absurd (not_far j q e z))
      (λ f. record { picked = omega arith; left = rw e f })
      (blank_or_finite (p.left p.m j)))
      (λ (b : τ j < p.m). record { picked = omega arith; left = policy.valid j (omega (arith, q.inside)) b })
      (nat_le_or_lt p.m (τ j))

  -- Where −t is above the second side, the strategy blocks at t from the second list; no pick is the objective's row.
  pub look_blocks : Blocks (system_at p t) (Second p) τ
  look_blocks = record { counts = counts; negative = λ w c. negative c.at c.arcs w c.walk }
