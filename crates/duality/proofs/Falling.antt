-- Laws of values that fall in place. A row keeps what `Falling` says and lowers the point. The point is at least the values, and
-- where every row stands it is the values: from each variable arcs that attain its value lead to an exit, or they close a walk
-- that does not weigh below zero.
use Prim.Native.Nat.{ℕ, zero, suc, ◌<◌}
use mathlib.Core.Path.{◌≡◌, ap, sym, subst, ◌∙◌}
use mathlib.Core.Logic.{◌⊎◌, inl, inr, ⊎_elim}
use native.Mathlib.Omega.{arith}
use lib.IntN.{ℤ, pos, ◌+ℤ◌}
use lib.Signed.{◌≤ℤ◌, ◌<ℤ◌}
use Rattle.base.proofs.Numbers.{nat_le_or_lt}
use Rattle.definitions.specs.Tropical.{Trop, fin, plus, ◌⊑◌, blank_least, larger, largest, Finite}
use Rattle.definitions.specs.Problem.{Point}
use Rattle.definitions.specs.Certificate.{Strategy, Walk, stop, step}
use Rattle.definitions.proofs.Whole.{whole}
use Rattle.definitions.proofs.Tropical.{blank_or_finite, ⊑_refl, ⊑_trans, ⊑_of_eq, ⊑_of_not, ⊑_antisym, fin_below, finite_above, zero_plus, plus_twice, plus_mono, plus_cancel, plus_cancel_left, Parts, plus_above, larger_left, larger_right, larger_one, largest_above, largest_ext, Attains, largest_at}
use Rattle.duality.specs.System.{System, side_of}
use Rattle.duality.specs.Values.{value_at, difference, weight_by, weights, exits, values, Policy, Fails}
use Rattle.duality.specs.Gains.{Entry}
use Rattle.duality.specs.Falling.{Falling, Stays, Falls, RowFalls}
use Rattle.duality.proofs.Walks.{looped, walk_fold, walk_change}
use Rattle.duality.proofs.Longest.{exit_value, arc_value, value_under, Stable, stable_potential, stable_exit}
use Rattle.duality.proofs.Weights.{difference_whole, difference_largest, weight_picked, exit_picked, exit_terminal, entries_arcs, arcs_entries, values_stable}
use Rattle.duality.proofs.Policy.{Same, Lowered, still_negative, fails_finite, fails_falls, kept_same}

-- ---- a point that a round does not lower

-- An arc that attains the value of its start.
record Attained (W : ℕ → ℕ → Trop) (N : ℕ) (x : ℕ → Trop) (j l : ℕ) (w : ℤ) : Type 0 where
  entry : Entry W N j l w
  attains : x j ⊑ plus (fin w) (x l)
  start : Finite (x j)

record Onward (W : ℕ → ℕ → Trop) (N : ℕ) (x : ℕ → Trop) (j k : ℕ) : Type 0 where
  end : ℕ
  weight : ℤ
  walk : Walk (Attained W N x) j end k weight

module _ (W : ℕ → ℕ → Trop) (exits : ℕ → Trop) (N : ℕ) (x : ℕ → Trop)
    (kept : (j : ℕ) → j < N → x j ⊑ larger (exits j) (largest (λ l. plus (W j l) (x l)) N))
    (negative : (j n : ℕ) (w : ℤ) → Walk (Entry W N) j j (suc n) w → w <ℤ pos 0) where
  -- A value is at most that after k rounds, or k attaining arcs lead on.
  under_or_on : (k j : ℕ) → j < N → Finite (x j) → (x j ⊑ value_at W exits N k j) ⊎ Onward W N x j k
  under_or_on zero j h f = inr (record { end = j; weight = pos 0; walk = stop })
  under_or_on (suc k) j h f =
      ⊎_elim
      (λ e. inl (⊑_trans (rw e at (kept j h)) (exit_value W exits N (suc k) j)))
      (λ e. by_arc (λ l. under_or_on k l) (rw e at (kept j h)))
      (larger_one (exits j) (largest terms N))
    where
      terms : ℕ → Trop
      terms l = plus (W j l) (x l)

      by_arc : ((l : ℕ) → l < N → Finite (x l) → (x l ⊑ value_at W exits N k l) ⊎ Onward W N x l k)
          → x j ⊑ largest terms N → (x j ⊑ value_at W exits N (suc k) j) ⊎ Onward W N x j (suc k)
      by_arc shorter b =
          let a : Attains terms N = largest_at terms N (finite_above (rw f.is at b)) in
          let c : x j ⊑ terms a.place = rw a.same at b in
          let p : Parts f.whole (W j a.place) (x a.place) = plus_above _ _ (rw f.is at c) in
          ⊎_elim
          (λ u. inl (⊑_trans c (⊑_trans (plus_mono (⊑_refl (W j a.place)) u) (arc_value W exits N k j a.place a.inside))))
          (λ o. inr (record {
            end = o.end;
            weight = p.first +ℤ o.weight;
            walk = step (record { entry = record { inside = a.inside; entry = p.first_is }; attains = rw p.first_is at c; start = f }) o.walk;
          }))
          (shorter a.place a.inside (record { whole = p.second; is = p.second_is }))

  -- A closed walk of attaining arcs does not weigh below zero.
  attained_walk : {j k n : ℕ} {w : ℤ} → Walk (Attained W N x) j k n w → x j ⊑ plus (fin w) (x k)
  attained_walk = walk_fold (λ j k w. x j ⊑ plus (fin w) (x k)) (λ j. ⊑_of_eq (sym (zero_plus (x j))))
      (λ j l k w v a b. rw plus_twice (⊑_trans a (plus_mono (⊑_refl (fin w)) b))) (λ j l w a. a.attains)

  no_loop : {j n : ℕ} {w : ℤ} → 0 < n → Walk (Attained W N x) j j n w → ⊥
  no_loop {j} {n} {w} h r = go n h r
    where
      first : {l m k : ℕ} {v : ℤ} → 0 < k → Walk (Attained W N x) l m k v → Finite (x l)
      first b stop = absurd (omega arith)
      first b (step a p) = a.start

      go : (n : ℕ) → 0 < n → Walk (Attained W N x) j j n w → ⊥
      go zero b r = omega arith
      go (suc n) b r =
          let f : Finite (x j) = first b r in
          let c : pos 0 ≤ℤ w = fin_below (plus_cancel f.whole (rw (← f.is, zero_plus) (attained_walk r))) in
          let d : w <ℤ pos 0 = negative j n w (walk_change (λ j l w a. a.entry) r) in
          omega whole

  -- So the point is at most the values.
  pub kept_under : (j : ℕ) → j < N → x j ⊑ value_at W exits N N j
  kept_under j h = ⊎_elim (λ e. rw e blank_least) (λ f. ⊎_elim (λ u. u) (λ o. absurd (on o)) (under_or_on N j h f)) (blank_or_finite (x j))
    where
      on : Onward W N x j N → ⊥
      on o = let q = looped (record { inside = λ j l w a. a.entry.inside }) h (omega arith) o.walk in no_loop q.some q.loop

-- ---- what falls

module _ (s : System) (x : Point) where
  -- The right side of a row, by the arcs that it gives a variable.
  matrix : (j i : ℕ) (a : ℤ) → i < s.rows → s.left i j ≡ fin a → plus (fin a) (largest (λ l. plus (weight_by s i j l) (x l)) s.variables) ≡ side_of s (s.right i) x
  matrix j i a h e =
      ap (plus (fin a)) (largest_ext _ _ s.variables (λ l b. ap (λ z. plus z (x l)) (weight_picked s i j l h ∙ ap (difference (s.right i l)) e))
      ∙ difference_largest (s.right i) x (fin a) s.variables) ∙ difference_whole (side_of s (s.right i) x) a

module _ (s : System) (τ : Strategy) where
  -- The values of a kept strategy fall,
  pub values_falling : (x : Point) → Policy s τ → ((j : ℕ) → j < s.variables → x j ≡ values s τ j) → Falling s τ x
  values_falling x p e = record {
    valid = p.valid;
    negative = p.negative;
    potential = record { bounds = λ j l h i. rw (e j h, e l i) ((stable_potential (weights s τ) (exits s τ) s.variables stable).bounds j l h i) };
    over = λ j h. rw (e j h) (stable_exit (weights s τ) (exits s τ) s.variables stable j h);
    below = λ j h. rw (e j h) (p.below j h);
  }
    where
      stable : Stable (weights s τ) (exits s τ) s.variables (values s τ)
      stable = values_stable s τ p.negative

  module _ (x : Point) (f : Falling s τ x) where
    -- what falls is at least the values,
    pub falling_over : (j : ℕ) → j < s.variables → values s τ j ⊑ x j
    unfolding values
    falling_over j h = value_under (weights s τ) (exits s τ) s.variables f.potential f.over s.variables j h

    -- and the strategy is kept.
    pub falling_policy : Policy s τ
    falling_policy = record { valid = f.valid; negative = f.negative; below = λ j h. ⊑_trans (falling_over j h) (f.below j h) }

    -- Where every row stands, the point is the values.
    pub falling_values : ((i j : ℕ) → i < s.rows → j < s.variables → plus (s.left i j) (x j) ⊑ side_of s (s.right i) x)
        → (j : ℕ) → j < s.variables → x j ≡ values s τ j
    unfolding values
    falling_values all j h =
        ⊑_antisym (kept_under (weights s τ) (exits s τ) s.variables x kept (λ j n w r. f.negative j n w (entries_arcs s τ r)) j h) (falling_over j h)
      where
        kept : (j : ℕ) → j < s.variables → x j ⊑ larger (exits s τ j) (largest (λ l. plus (weights s τ j l) (x l)) s.variables)
        kept j h = ⊎_elim
            (λ t. ⊑_trans (f.below j h) (subst (λ z. z ⊑ larger (exits s τ j) (largest (λ l. plus (weights s τ j l) (x l)) s.variables)) (exit_terminal s (τ j) j t) (larger_left _ _)))
            (λ t. ⊑_trans (picked j h t (f.valid j h t)) (larger_right _ _))
            (nat_le_or_lt s.rows (τ j))
          where
            picked : (j : ℕ) → j < s.variables → τ j < s.rows → Finite (s.left (τ j) j) → x j ⊑ largest (λ l. plus (weights s τ j l) (x l)) s.variables
            picked j h t a = plus_cancel_left a.whole (rw (matrix s x j (τ j) a.whole t a.is, ← a.is) (all (τ j) j t h))

    -- ---- a row

    module _ (i : ℕ) (r : i < s.rows) (τ' : Strategy) (x' : Point) (row : RowFalls s i τ x τ' x') where
      row_picked : (j : ℕ) → Falls s i x τ' x' j → τ' j < s.rows
      row_picked j c = rw c.pick r

      -- The point falls,
      pub row_lower : (j : ℕ) → j < s.variables → x' j ⊑ x j
      row_lower j h = ⊎_elim (λ c. ⊑_of_eq c.value) (λ c. rw c.value (falls_lower c)) (row j h)
        where
          falls_lower : Falls s i x τ' x' j → difference (side_of s (s.right i) x) (s.left i j) ⊑ x j
          falls_lower c = let a = fails_finite s x i j c.fails in
              rw a.is (plus_cancel_left a.whole (rw (difference_whole (side_of s (s.right i) x) a.whole) (rw a.is at (⊑_of_not c.fails))))

      -- The arcs and exits of a variable are the same, or fall below the old point.
      row_changes : (j : ℕ) → j < s.variables
          → Same (weights s τ) (weights s τ') (exits s τ) (exits s τ') j ⊎ Lowered (weights s τ') (exits s τ') s.variables x j
      row_changes j h = ⊎_elim
          (λ c. inl (kept_same s τ τ' j c.pick))
          (λ c. inr (record {
            falls = λ l b. fails_falls s x (τ' j) j l (row_picked j c) (subst (λ i. Fails s x i j) (sym c.pick) c.fails) b;
            closed = exit_picked s (τ' j) j (row_picked j c);
          }))
          (row j h)

      row_potential : (j l : ℕ) → j < s.variables → l < s.variables → plus (weights s τ' j l) (x' l) ⊑ x' j
      row_potential j l h b = ⊑_trans (plus_mono (⊑_refl (weights s τ' j l)) (row_lower l b)) (⊎_elim stays falls (row j h))
        where
          stays : Stays s i τ x τ' x' j → plus (weights s τ' j l) (x l) ⊑ x' j
          stays c = rw (c.value, c.pick) (f.potential.bounds j l h b)

          falls : Falls s i x τ' x' j → plus (weights s τ' j l) (x l) ⊑ x' j
          falls c = rw (c.value, c.pick, weight_picked s i j l r, ← difference_largest (s.right i) x (s.left i j) s.variables)
              (largest_above (λ l. plus (difference (s.right i l) (s.left i j)) (x l)) s.variables l b)

      -- and what was said of it holds again.
      pub row_falling : Falling s τ' x'
      row_falling = record {
        valid = λ j h p. ⊎_elim (λ c. rw c.pick (f.valid j h (rw c.pick at p))) (λ c. rw c.pick (fails_finite s x i j c.fails)) (row j h);
        negative = λ j n w p. still_negative (weights s τ) (weights s τ') (exits s τ) (exits s τ') s.variables x f.potential f.over row_changes
            (λ j n w q. f.negative j n w (entries_arcs s τ q)) j n w (arcs_entries s τ' p);
        potential = record { bounds = row_potential };
        over = λ j h. ⊎_elim (λ c. rw (c.value, c.pick) (f.over j h)) (λ c. rw (exit_picked s (τ' j) j (row_picked j c)) blank_least) (row j h);
        below = λ j h. ⊑_trans (row_lower j h) (f.below j h);
      }
