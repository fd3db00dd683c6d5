-- One step of the policy iteration. Along the arcs of the new strategy the old values, or any potential that is at least the
-- exits, are a potential, and where the pick is new every arc falls below it. So closed walks stay negative, values fall, and they fall strictly where the pick is
-- new. Any set of variables may be switched, each to any row that fails there.
use Prim.Native.Nat.{ℕ, zero, suc, ◌<◌}
use mathlib.Core.Path.{◌≡◌, ap, sym, subst, ◌∙◌}
use mathlib.Core.Logic.{◌⊎◌, inl, inr, ⊎_elim}
use native.Mathlib.Omega.{arith}
use lib.IntN.{ℤ, pos, ◌+ℤ◌}
use lib.Signed.{◌≤ℤ◌, ◌<ℤ◌}
use Rattle.definitions.specs.Tropical.{Trop, bot, fin, plus, ◌⊑◌, blank_least, whole_least, larger, largest, Finite}
use Rattle.definitions.specs.Problem.{Point}
use Rattle.definitions.specs.Certificate.{Strategy, Walk, stop, step}
use Rattle.definitions.proofs.Whole.{le_or_lt}
use Rattle.definitions.proofs.Tropical.{blank_or_finite, ⊑_refl, ⊑_trans, ⊑_of_not, zero_plus, plus_twice, plus_mono, plus_cancel_left, largest_above, Attains, largest_attained}
use Rattle.duality.specs.System.{System, Arc}
use Rattle.duality.specs.Values.{value_at, weight_by, exit_by, weights, exits, values, Policy, Fails, Switched, Switch}
use Rattle.duality.specs.Sweeps.{Potential}
use Rattle.duality.proofs.Longest.{entries_end, potential_walk, Stable, value_under, stable_potential, stable_exit}
use Rattle.duality.specs.Gains.{Entry}
use Rattle.duality.proofs.Weights.{difference_back, weight_picked, exit_picked, entries_arcs, arcs_entries, values_stable}

-- ---- over matrices

-- What a step changes at a variable: nothing,
pub record Same (W W' : ℕ → ℕ → Trop) (exits exits' : ℕ → Trop) (j : ℕ) : Type 0 where
  pub entries : (l : ℕ) → W' j l ≡ W j l
  pub exit : exits' j ≡ exits j

-- or the exit closes and every entry falls below the old value.
pub record Lowered (W' : ℕ → ℕ → Trop) (exits' : ℕ → Trop) (N : ℕ) (e : ℕ → Trop) (j : ℕ) : Type 0 where
  pub falls : (l : ℕ) → l < N → (e j ⊑ plus (W' j l) (e l)) → ⊥
  pub closed : exits' j ≡ bot

module _ (W W' : ℕ → ℕ → Trop) (exits exits' : ℕ → Trop) (N : ℕ) (e : ℕ → Trop) (potential : Potential W N e)
    (over : (j : ℕ) → j < N → exits j ⊑ e j) (change : (j : ℕ) → j < N → Same W W' exits exits' j ⊎ Lowered W' exits' N e j) where
  -- The old potential is one of the new matrix,
  new_potential : Potential W' N e
  new_potential = record { bounds = λ j l h i. ⊎_elim (kept j l h i) (λ c. ⊑_of_not (c.falls l i)) (change j h) }
    where
      kept : (j l : ℕ) → j < N → l < N → Same W W' exits exits' j → plus (W' j l) (e l) ⊑ e j
      kept j l h i same = rw (same.entries l) (potential.bounds j l h i)

  -- and at least its exits.
  new_exits : (j : ℕ) → j < N → exits' j ⊑ e j
  new_exits j h = ⊎_elim (λ same. rw same.exit (over j h)) (λ c. rw c.closed blank_least) (change j h)

  -- A new walk is an old one, or it falls below the potential.
  walk_falls : {j k n : ℕ} {w : ℤ} → j < N → Walk (Entry W' N) j k n w
      → Walk (Entry W N) j k n w ⊎ ((e j ⊑ plus (fin w) (e k)) → ⊥)
  walk_falls h stop = inl stop
  walk_falls h (step {j = j} {l = l} {k = k} {n = n} {w = w} {v = v} a r) =
      ⊎_elim (λ same. ⊎_elim (λ old. inl (step (record { inside = a.inside; entry = sym (same.entries l) ∙ a.entry }) old)) (λ f. inr (later f)) (walk_falls a.inside r))
      (λ c. inr (here c))
      (change j h)
    where
      -- The rest of the walk falls.
      later : ((e l ⊑ plus (fin v) (e k)) → ⊥) → (e j ⊑ plus (fin (w +ℤ v)) (e k)) → ⊥
      later f b = f (plus_cancel_left w (⊑_trans (rw a.entry at (new_potential.bounds j l h a.inside)) (rw plus_twice at b)))

      -- Its first arc does.
      here : Lowered W' exits' N e j → (e j ⊑ plus (fin (w +ℤ v)) (e k)) → ⊥
      here c b = c.falls l a.inside
          (rw a.entry (⊑_trans (rw plus_twice at b) (plus_mono (⊑_refl (fin w)) (potential_walk new_potential a.inside r))))

  -- So closed walks stay negative.
  pub still_negative : ((j n : ℕ) (w : ℤ) → Walk (Entry W N) j j (suc n) w → w <ℤ pos 0)
      → (j n : ℕ) (w : ℤ) → Walk (Entry W' N) j j (suc n) w → w <ℤ pos 0
  still_negative negative j n w r =
      ⊎_elim (λ old. negative j n w old) (λ f. ⊎_elim (λ (b : pos 0 ≤ℤ w). absurd (f (rises b))) (λ b. b) (le_or_lt (pos 0) w)) (walk_falls (entries_end (omega arith) r) r)
    where
      rises : pos 0 ≤ℤ w → e j ⊑ plus (fin w) (e j)
      rises b = subst (λ z. z ⊑ plus (fin w) (e j)) (zero_plus (e j)) (plus_mono (whole_least b) (⊑_refl (e j)))

  -- Values fall,
  pub values_under : (k j : ℕ) → j < N → value_at W' exits' N k j ⊑ e j
  values_under k j h = value_under W' exits' N new_potential new_exits k j h

  -- strictly where something changed.
  pub values_strict : (k j : ℕ) → j < N → Lowered W' exits' N e j → (e j ⊑ value_at W' exits' N k j) → ⊥
  unfolding value_at larger
  values_strict zero j h c b = c.falls j h (⊑_trans (rw c.closed at b) blank_least)
  values_strict (suc k) j h c b =
      ⊎_elim
      (λ n. c.falls j h (⊑_trans (rw n at below) blank_least))
      (λ (a : Attains terms N). c.falls a.place a.inside (⊑_trans (rw a.same at below) (plus_mono (⊑_refl _) (values_under k a.place a.inside))))
      (largest_attained terms N)
    where
      terms : ℕ → Trop
      terms l = plus (W' j l) (value_at W' exits' N k l)

      below : e j ⊑ largest terms N
      below = rw c.closed at b

-- Closed walks stay negative where the old values are stable.
pub closed_negative : (W W' : ℕ → ℕ → Trop) (exits exits' : ℕ → Trop) (N : ℕ) (e : ℕ → Trop) → Stable W exits N e
    → ((j : ℕ) → j < N → Same W W' exits exits' j ⊎ Lowered W' exits' N e j)
    → ((j n : ℕ) (w : ℤ) → Walk (Entry W N) j j (suc n) w → w <ℤ pos 0) → (j n : ℕ) (w : ℤ) → Walk (Entry W' N) j j (suc n) w → w <ℤ pos 0
closed_negative W W' exits exits' N e stable =
    still_negative W W' exits exits' N e (stable_potential W exits N stable) (stable_exit W exits N stable)

-- ---- over systems

-- A row that fails at a variable has a whole left coefficient there,
pub fails_finite : (s : System) (x : Point) (i j : ℕ) → Fails s x i j → Finite (s.left i j)
unfolding plus
fails_finite s x i j f = ⊎_elim (λ b. absurd (f (rw b blank_least))) (λ f. f) (blank_or_finite (s.left i j))

-- and its arcs from there fall below the variable.
pub fails_falls : (s : System) (x : Point) (i j l : ℕ) → i < s.rows → Fails s x i j → l < s.variables → (x j ⊑ plus (weight_by s i j l) (x l)) → ⊥
fails_falls s x i j l r f h b =
    let a : Finite (s.left i j) = fails_finite s x i j f in
    f
    (rw a.is
    (⊑_trans (plus_mono (⊑_refl (fin a.whole)) b)
    (rw (weight_picked s i j l r, a.is, difference_back (s.right i l) (x l) a.whole)
    (largest_above (λ l. plus (s.right i l) (x l)) s.variables l h))))

-- A variable that keeps its pick keeps its arcs and exit.
pub kept_same : (s : System) (τ τ' : Strategy) (j : ℕ) → τ' j ≡ τ j → Same (weights s τ) (weights s τ') (exits s τ) (exits s τ') j
kept_same s τ τ' j e = record { entries = λ l. ap (λ i. weight_by s i j l) e; exit = ap (λ i. exit_by s i j) e }

module _ (s : System) (τ τ' : Strategy) (policy : Policy s τ) (switch : Switch s τ τ') where
  stable_values : Stable (weights s τ) (exits s τ) s.variables (values s τ)
  stable_values = values_stable s τ policy.negative

  old_potential : Potential (weights s τ) s.variables (values s τ)
  old_potential = stable_potential (weights s τ) (exits s τ) s.variables stable_values

  old_exits : (j : ℕ) → j < s.variables → exits s τ j ⊑ values s τ j
  old_exits = stable_exit (weights s τ) (exits s τ) s.variables stable_values

  -- The entries of a switched variable fall below the old value.
  switched_lowered : (j : ℕ) → Switched s τ τ' j → Lowered (weights s τ') (exits s τ') s.variables (values s τ) j
  switched_lowered j c = record { falls = λ l i. fails_falls s (values s τ) (τ' j) j l c.picked c.fails i; closed = exit_picked s (τ' j) j c.picked }

  changes : (j : ℕ) → j < s.variables
      → Same (weights s τ) (weights s τ') (exits s τ) (exits s τ') j ⊎ Lowered (weights s τ') (exits s τ') s.variables (values s τ) j
  changes j h =
      ⊎_elim (λ e. inl (kept_same s τ τ' j e)) (λ c. inr (switched_lowered j c)) (switch j h)

  -- Values fall,
  pub next_falls : (j : ℕ) → j < s.variables → values s τ' j ⊑ values s τ j
  unfolding values
  next_falls j h = values_under (weights s τ) (weights s τ') (exits s τ) (exits s τ') s.variables (values s τ) old_potential old_exits changes s.variables j h

  -- strictly where the pick is new.
  pub next_strict : (j : ℕ) → j < s.variables → Switched s τ τ' j → (values s τ j ⊑ values s τ' j) → ⊥
  unfolding values
  next_strict j h c =
      values_strict (weights s τ) (weights s τ') (exits s τ) (exits s τ') s.variables (values s τ) old_potential old_exits changes s.variables j h
      (switched_lowered j c)

  next_valid : (j : ℕ) → j < s.variables → τ' j < s.rows → Finite (s.left (τ' j) j)
  next_valid j h p = ⊎_elim (λ e. rw e (policy.valid j h (rw e at p))) (λ c. fails_finite s (values s τ) (τ' j) j c.fails) (switch j h)

  next_negative : (j n : ℕ) (w : ℤ) → Walk (Arc s τ') j j (suc n) w → w <ℤ pos 0
  next_negative j n w r =
      closed_negative (weights s τ) (weights s τ') (exits s τ) (exits s τ') s.variables (values s τ) stable_values changes
      (λ j n w p. policy.negative j n w (entries_arcs s τ p)) j n w (arcs_entries s τ' r)

  -- The next strategy is kept again.
  pub next_policy : Policy s τ'
  next_policy = record { valid = next_valid; negative = next_negative; below = λ j h. ⊑_trans (next_falls j h) (policy.below j h) }
