-- The three classes, in the words of the definitions. Optimal s is attainable at s and not at s − 1; infeasible is
-- attainable at no t, which the trial at T decides; unbounded is attainable at every t, which the trial at −T − 1
-- decides. Exactly one of the three holds, and each is shown by some start with picks that the checker's list accepts. What the
-- lists of classes 2 and 3 show is proved from any start; the classes themselves are about the anchor and the second list.
use Prim.Native.Nat.{ℕ, zero, suc, ◌+◌, ◌*◌, ◌≤◌}
use mathlib.Core.Path.{◌≡◌, refl, ap}
use mathlib.Core.Logic.Iff
use mathlib.Core.Logic.{◌⊎◌, inl, inr, ⊎_elim, ◌↔◌}
use native.Mathlib.Omega.{arith}
use native.Mathlib.Nat.{le_refl}
use lib.IntN.{ℤ, pos, negsuc, nat_abs, ◌-ℤ◌}
use lib.Signed.{◌≤ℤ◌, ◌<ℤ◌}
use Rattle.definitions.specs.Tropical.{Trop, fin}
use Rattle.definitions.specs.Bisection.{trials_optimal}
use Rattle.definitions.specs.Solved as Solved
use Rattle.definitions.specs.Solved.{Found}
use Rattle.definitions.specs.Problem as Problems
use Rattle.definitions.specs.Problem.{Problem, Point, Feasible, Counts, value, ◌≼◌, Attainable, Optimal, Unbounded, Infeasible}
use Rattle.definitions.specs.Certificate.{Anchor, Second, start_of, AnchorAnd, PicksCount, BelowZero, AcceptedOptimal, AcceptedInfeasible, RowPicksCount, AtLeastZero, AcceptedUnbounded}
use Rattle.definitions.proofs.Whole.{whole, minus_read, abs_show, le_or_lt}
use Rattle.definitions.proofs.Values.{≼_refl, ≼_antisym, least_or_below, not_least_and_below, whole_below}
use Rattle.definitions.proofs.Counts.{whole_counts, counts_bounded, none_counts}
use Rattle.duality.specs.Starts.{Only, StartBelow}
use Rattle.duality.specs.System.{Solution, AllSolved, system_at}
use Rattle.duality.specs.Picks.{picks_from, SomePicks, SomeStart, SomeSecond, strategy_of}
use Rattle.duality.specs.Within.{Within, Enough, upper, lower}
use Rattle.duality.specs.Classes.{HasOptimal}
use Rattle.duality.proofs.Starts.{anchor_below, second_below, start_below, anchor_and_below}
use Rattle.duality.proofs.Ends.{started_solution}
use Rattle.duality.proofs.Strong.{bound}
use Rattle.duality.proofs.Solutions.{joint_exactly}
use Rattle.duality.proofs.Picks.{picks_joined, picks_none_above, block_picks, save_picks, blocks_exactly, saves_exactly}
use Rattle.duality.proofs.Numbers.{infeasible_below, below_infeasible, unbounded_above, above_unbounded, within_some}
use Rattle.duality.proofs.Rows.{saved_exactly, blocked_exactly, solution_decided, either_solved, only_solved}
use Rattle.duality.proofs.Attain.{attainable_joint, joint_attainable, attainable_above}

-- ---- from a start, decided by picks

-- A start inside the problem is one of its systems.
starts_at : {Start : ℕ → Type 0} (p : Problem) (t : ℤ) → StartBelow (suc p.n) Start → StartBelow (system_at p t).variables Start
unfolding system_at
starts_at p t starts = starts

pub starts_inside : {Start : ℕ → Type 0} (p : Problem) → StartBelow (suc p.n) Start → (j : ℕ) → Start j → j ≤ p.n
starts_inside p starts j h = omega (arith, starts.inside j h)

module _ (Start : ℕ → Type 0) (p : Problem) (starts : StartBelow (suc p.n) Start) (t : ℤ) where
  -- No solution at t is finite at a variable of the start exactly when some picks count and leave cycles below zero at t.
  pub unsolved_exactly : (Solution (system_at p t) Start → ⊥)
      ↔ SomePicks (suc p.m) (suc p.n) (λ picks. PicksCount Start p picks × BelowZero Start p picks t)
  unsolved_exactly = (show, refute)
    where
      show : (Solution (system_at p t) Start → ⊥) → SomePicks (suc p.m) (suc p.n) (λ picks. PicksCount Start p picks × BelowZero Start p picks t)
      show d =
          let b = (blocked_exactly (system_at p t) Start (starts_at p t starts)).0 d in
          record {
            picks = picks_from b.strategy (suc p.m);
            none_above = picks_none_above b.strategy (suc p.m) (suc p.n);
            accepted = block_picks p t (picks_joined b.strategy (suc p.m) (suc p.n)) (starts_inside p starts) b.blocks;
          }

      refute : SomePicks (suc p.m) (suc p.n) (λ picks. PicksCount Start p picks × BelowZero Start p picks t) → Solution (system_at p t) Start → ⊥
      refute c = (blocked_exactly (system_at p t) Start (starts_at p t starts)).1 (record {
        strategy = strategy_of c.picks (suc p.m);
        blocks = (blocks_exactly Start p t c.picks (starts_inside p starts) c.none_above).0 c.accepted;
      })

  -- Each variable of the start is finite in some solution at t exactly when the rows in use have picks that leave cycles at zero or
  -- more at t.
  pub solved_by_rows : AllSolved (system_at p t) Start
      ↔ SomePicks (suc p.n) (suc p.m) (λ picks. RowPicksCount Start p picks × AtLeastZero Start p picks t)
  solved_by_rows = (show, solve)
    where
      show : AllSolved (system_at p t) Start → SomePicks (suc p.n) (suc p.m) (λ picks. RowPicksCount Start p picks × AtLeastZero Start p picks t)
      show all =
          let b = (saved_exactly (system_at p t) Start (starts_at p t starts).inside).0 all in
          record {
            picks = picks_from b.strategy (suc p.n);
            none_above = picks_none_above b.strategy (suc p.n) (suc p.m);
            accepted = save_picks p t (picks_joined b.strategy (suc p.n) (suc p.m)) b.saves;
          }

      solve : SomePicks (suc p.n) (suc p.m) (λ picks. RowPicksCount Start p picks × AtLeastZero Start p picks t) → AllSolved (system_at p t) Start
      solve c = (saved_exactly (system_at p t) Start (starts_at p t starts).inside).1
          (record { strategy = strategy_of c.picks (suc p.n); saves = (saves_exactly Start p t c.picks c.none_above).0 c.accepted })

-- ---- attainable, decided by picks from a start

-- Attainable at t exactly when a solution at t is finite at the anchor and one at a variable of the second list.
pub attainable_exactly : (p : Problem) (t : ℤ) → Attainable p t ↔ (Solution (system_at p t) Anchor × Solution (system_at p t) (Second p))
attainable_exactly p t = Iff.trans (attainable_joint p t, joint_attainable p t) (joint_exactly (system_at p t) Anchor (Second p))

-- Whether a variable of a start is finite in some solution is decided.
start_solved : {Start : ℕ → Type 0} (p : Problem) (t : ℤ) → StartBelow (suc p.n) Start → Solution (system_at p t) Start ⊎ (Solution (system_at p t) Start → ⊥)
start_solved {Start} p t starts = solution_decided (system_at p t) Start (starts_at p t starts)

-- Without a solution for what some start of classes 1 and 3 means.
pub record Unsolved (p : Problem) (t : ℤ) : Type 0 where
  pub start : ℕ
  pub fits : start ≤ 1
  pub none : Solution (system_at p t) (start_of p start) → ⊥

-- Attainable, or without a solution for one of the two starts.
pub attainable_or_unsolved : (p : Problem) (t : ℤ) → Attainable p t ⊎ Unsolved p t
unfolding start_of
attainable_or_unsolved p t = go (start_solved p t (anchor_below p)) (start_solved p t (second_below p))
  where
    go : Solution (system_at p t) Anchor ⊎ (Solution (system_at p t) Anchor → ⊥)
        → Solution (system_at p t) (Second p) ⊎ (Solution (system_at p t) (Second p) → ⊥) → Attainable p t ⊎ Unsolved p t
    go (inr d) r = inr (record { start = 0; fits = omega arith; none = d })
    go (inl a) (inr d) = inr (record { start = 1; fits = omega arith; none = d })
    go (inl a) (inl b) = inl ((attainable_exactly p t).1 (a, b))

-- Not both.
pub unsolved_unattainable : (p : Problem) (t : ℤ) (start : ℕ) → (Solution (system_at p t) (start_of p start) → ⊥) → Attainable p t → ⊥
unfolding start_of
unsolved_unattainable p t zero d a = d ((attainable_exactly p t).0 a).0
unsolved_unattainable p t (suc k) d a = d ((attainable_exactly p t).0 a).1

-- Whether a value of at most t is attainable is decided.
pub attainable_decided : (p : Problem) (t : ℤ) → Attainable p t ⊎ (Attainable p t → ⊥)
attainable_decided p t = ⊎_elim inl (λ u. inr (unsolved_unattainable p t u.start u.none)) (attainable_or_unsolved p t)

-- Not attainable at t exactly when from some start some picks count and leave cycles below zero at t.
pub unattainable_exactly : (p : Problem) (t : ℤ)
    → (Attainable p t → ⊥) ↔ SomeStart p (λ Start picks. PicksCount Start p picks × BelowZero Start p picks t)
unattainable_exactly p t = (
  λ d. ⊎_elim
      (λ a. absurd (d a))
      (λ u. record { start = u.start; fits = u.fits; table = (unsolved_exactly (start_of p u.start) p (start_below p u.start) t).0 u.none })
      (attainable_or_unsolved p t),
  λ c. unsolved_unattainable p t c.start ((unsolved_exactly (start_of p c.start) p (start_below p c.start) t).1 c.table),
)

-- A variable of the second list that is finite in some solution at t, as the anchor is.
record BothSolved (p : Problem) (t : ℤ) : Type 0 where
  at : ℕ
  second : Second p at
  all : AllSolved (system_at p t) (AnchorAnd at)

attained_second : (p : Problem) (t : ℤ) → Attainable p t → BothSolved p t
attained_second p t a =
    let v = (attainable_exactly p t).0 a in
    let k = v.1.at in
    let h : Solution (system_at p t) (Only k) = started_solution (system_at p t) (Only k) v.1.point v.1.solves k v.1.inside refl v.1.finite in
    record {
      at = k;
      second = v.1.started;
      all = (either_solved (system_at p t) Anchor (Only k)).1 ((only_solved (system_at p t) 0).0 v.0, (only_solved (system_at p t) k).0 h);
    }

pub second_attained : (p : Problem) (t : ℤ) {k : ℕ} → Second p k → AllSolved (system_at p t) (AnchorAnd k) → Attainable p t
second_attained p t {k} s all =
    let v = all k (inr refl) in
    (attainable_exactly p t).1 (
      all 0 (inl refl),
      started_solution (system_at p t) (Second p) v.point v.solves v.at v.inside (rw v.started s) v.finite,
    )

-- Attainable at t exactly when the rows in use from the anchor and some variable of the second list have picks that leave cycles at
-- zero or more at t.
pub attainable_by_rows : (p : Problem) (t : ℤ)
    → Attainable p t ↔ SomeSecond p (λ Start picks. RowPicksCount Start p picks × AtLeastZero Start p picks t)
attainable_by_rows p t = (
  λ a. let b = attained_second p t a in
      record { at = b.at; second = b.second; table = (solved_by_rows (AnchorAnd b.at) p (anchor_and_below p b.at b.second) t).0 b.all },
  λ c. second_attained p t c.second ((solved_by_rows (AnchorAnd c.at) p (anchor_and_below p c.at c.second) t).1 c.table),
)

-- ---- class 1

-- Every feasible point that counts has a value of at least s.
abbrev pub Least : Problem → ℤ → Type 0
Least p s = (y : Point) → Feasible p y → Counts p y → Problems.whole s ≼ value p y

-- Exactly when s − 1 is not attainable.
pub least_exactly : (p : Problem) (s : ℤ) → Least p s ↔ (Attainable p (s -ℤ pos 1) → ⊥)
least_exactly p s = (
  λ least a. not_least_and_below s (least a.point a.feasible a.counts) a.within,
  λ d y f c. ⊎_elim (λ h. h) (λ h. absurd (d (record { point = y; feasible = f; counts = c; within = h }))) (least_or_below s (value p y)),
)

-- A feasible point that counts with a value of at most s, where s − 1 is not attainable, has value s.
pub value_exactly : (p : Problem) (s : ℤ) (x : Point) → Feasible p x → Counts p x → value p x ≼ Problems.whole s
    → (Attainable p (s -ℤ pos 1) → ⊥) → value p x ≡ Problems.whole s
value_exactly p s x f c v d = ≼_antisym v ((least_exactly p s).1 d x f c)

-- Optimal s exactly when s is attainable and s − 1 is not.
pub optimal_exactly : (p : Problem) (s : ℤ) → Optimal p s ↔ (Attainable p s × (Attainable p (s -ℤ pos 1) → ⊥))
optimal_exactly p s = (
  λ o. (
    record { point = o.point; feasible = o.feasible; counts = o.counts; within = rw o.value_is (≼_refl (Problems.whole s)) },
    (least_exactly p s).0 o.least,
  ),
  λ c. record {
    point = c.0.point;
    feasible = c.0.feasible;
    counts = c.0.counts;
    value_is = value_exactly p s c.0.point c.0.feasible c.0.counts c.0.within c.1;
    least = (least_exactly p s).1 c.1;
  },
)

-- It is least exactly when from some start some picks count and leave cycles below zero at s − 1.
pub least_by_picks : (p : Problem) (s : ℤ) → Least p s ↔ SomeStart p (λ Start picks. PicksCount Start p picks × BelowZero Start p picks (s -ℤ pos 1))
least_by_picks p s = Iff.trans (least_exactly p s) (unattainable_exactly p (s -ℤ pos 1))

-- A feasible point of value s is least exactly when some start with some picks makes the list of class 1.
pub optimal_accepted : (p : Problem) (s : ℤ) (x : Point) → Feasible p x → value p x ≡ Problems.whole s
    → Least p s ↔ SomeStart p (λ Start. AcceptedOptimal Start p s x)
optimal_accepted p s x f v = (
  λ least. let c = (least_by_picks p s).0 least in record {
    start = c.start;
    fits = c.fits;
    table = record {
      picks = c.table.picks;
      none_above = c.table.none_above;
      accepted = record { feasible = f; value_is = v; picks_count = c.table.accepted.0; below_zero = c.table.accepted.1 };
    };
  },
  λ c. (least_by_picks p s).1 (record {
    start = c.start;
    fits = c.fits;
    table = record { picks = c.table.picks; none_above = c.table.none_above; accepted = (c.table.accepted.picks_count, c.table.accepted.below_zero) };
  }),
)

-- Where class 1 accepts, s is optimal.
pub accepted_optimal : (p : Problem) (s : ℤ) (x : Point) → SomeStart p (λ Start. AcceptedOptimal Start p s x) → Optimal p s
accepted_optimal p s x c =
    let a = c.table.accepted in
    record {
      point = x;
      feasible = a.feasible;
      counts = whole_counts a.value_is;
      value_is = a.value_is;
      least = (optimal_accepted p s x a.feasible a.value_is).1 c;
    }

-- Attainable at t and not at t − k: some value between is optimal.
descend : (p : Problem) (k : ℕ) (t : ℤ) → Attainable p t → (Attainable p (t -ℤ pos k) → ⊥) → HasOptimal p
descend p zero t a d = let e : t -ℤ pos 0 ≡ t = omega (whole, minus_read t (pos 0)) in absurd (d (rw e a))
descend p (suc k) t a d = ⊎_elim
    (λ b. descend p k (t -ℤ pos 1) b (rw e d))
    (λ c. record { at = t; optimal = (optimal_exactly p t).1 (a, c) })
    (attainable_decided p (t -ℤ pos 1))
  where
    e : (t -ℤ pos 1) -ℤ pos k ≡ t -ℤ pos (suc k)
    e = omega (whole, minus_read t (pos 1), minus_read (t -ℤ pos 1) (pos k), minus_read t (pos (suc k)))

-- ---- classes 2 and 3

-- Infeasible exactly when nothing is attainable.
pub infeasible_never : (p : Problem) → Infeasible p ↔ ((t : ℤ) → Attainable p t → ⊥)
infeasible_never p = (
  λ h t a. none_counts h a.feasible a.counts,
  λ d x f c. absurd (d (counts_bounded c).bound (record { point = x; feasible = f; counts = c; within = (counts_bounded c).below })),
)

-- ---- from a start, at every t

module _ (Start : ℕ → Type 0) (p : Problem) (starts : StartBelow (suc p.n) Start) where
  -- Where class 3 accepts, no solution at any t is finite at a variable of the start.
  pub accepted_unsolved : SomePicks (suc p.m) (suc p.n) (AcceptedInfeasible Start p) → (t : ℤ) → Solution (system_at p t) Start → ⊥
  accepted_unsolved c t = (unsolved_exactly Start p starts t).1 (record {
    picks = c.picks;
    none_above = c.none_above;
    accepted = (c.accepted.picks_count, infeasible_below p c.picks t c.accepted);
  })

  -- Where class 2 accepts, at every t each variable of the start is finite in some solution.
  pub accepted_solved : SomePicks (suc p.n) (suc p.m) (AcceptedUnbounded Start p) → (t : ℤ) → AllSolved (system_at p t) Start
  accepted_solved c t = (solved_by_rows Start p starts t).1 (record {
    picks = c.picks;
    none_above = c.none_above;
    accepted = (c.accepted.picks_count, unbounded_above p c.picks t c.accepted);
  })

  module _ (L T : ℕ) (within : Within p L) (enough : Enough p.n L T) where
    -- Where no solution at T is, class 3 accepts some picks.
    pub unsolved_accepted : (Solution (system_at p (upper T)) Start → ⊥) → SomePicks (suc p.m) (suc p.n) (AcceptedInfeasible Start p)
    unsolved_accepted d =
        let c = (unsolved_exactly Start p starts (upper T)).0 d in
        record {
          picks = c.picks;
          none_above = c.none_above;
          accepted = below_infeasible p L T c.picks (starts_inside p starts) within enough c.none_above c.accepted.0 c.accepted.1;
        }

    -- Where each variable of the start is finite in some solution at −T − 1, class 2 accepts some row picks.
    pub solved_accepted : AllSolved (system_at p (lower T)) Start → SomePicks (suc p.n) (suc p.m) (AcceptedUnbounded Start p)
    solved_accepted all =
        let c = (solved_by_rows Start p starts (lower T)).0 all in
        record {
          picks = c.picks;
          none_above = c.none_above;
          accepted = above_unbounded p L T c.picks (starts_inside p starts) within enough c.none_above c.accepted.0 c.accepted.1;
        }

-- ---- from the starts of answers

-- Where class 3 accepts, nothing is attainable.
pub accepted_infeasible : (p : Problem) → SomeStart p (λ Start. AcceptedInfeasible Start p) → Infeasible p
accepted_infeasible p c = (infeasible_never p).1
    (λ t. unsolved_unattainable p t c.start (accepted_unsolved (start_of p c.start) p (start_below p c.start) c.table t))

-- Where class 2 accepts, everything is attainable.
pub accepted_unbounded : (p : Problem) → SomeSecond p (λ Start. AcceptedUnbounded Start p) → Unbounded p
accepted_unbounded p c t = second_attained p t c.second (accepted_solved (AnchorAnd c.at) p (anchor_and_below p c.at c.second) c.table t)

-- ---- the numbers that decide

module _ (p : Problem) (L T : ℕ) (within : Within p L) (enough : Enough p.n L T) where
  -- Where T is not attainable, class 3 accepts some start with picks,
  unattainable_accepted : (Attainable p (upper T) → ⊥) → SomeStart p (λ Start. AcceptedInfeasible Start p)
  unattainable_accepted d = ⊎_elim
      (λ a. absurd (d a))
      (λ u. record {
        start = u.start;
        fits = u.fits;
        table = unsolved_accepted (start_of p u.start) p (start_below p u.start) L T within enough u.none;
      })
      (attainable_or_unsolved p (upper T))

  -- and where −T − 1 is, class 2 some variable of the second list with row picks.
  attainable_accepted : Attainable p (lower T) → SomeSecond p (λ Start. AcceptedUnbounded Start p)
  attainable_accepted a =
      let b = attained_second p (lower T) a in
      record {
        at = b.at;
        second = b.second;
        table = solved_accepted (AnchorAnd b.at) p (anchor_and_below p b.at b.second) L T within enough b.all;
      }

  -- Infeasible exactly when T is not attainable.
  pub infeasible_exactly : Infeasible p ↔ (Attainable p (upper T) → ⊥)
  infeasible_exactly = (λ h. (infeasible_never p).0 h (upper T), λ d. accepted_infeasible p (unattainable_accepted d))

  -- Unbounded exactly when −T − 1 is attainable.
  pub unbounded_exactly : Unbounded p ↔ Attainable p (lower T)
  unbounded_exactly = (λ h. h (lower T), λ a. accepted_unbounded p (attainable_accepted a))

  -- An optimal value is at most T, and at least −T.
  optimal_not_above : (s : ℤ) → Optimal p s → upper T <ℤ s → ⊥
  optimal_not_above s o h =
      let c = (optimal_exactly p s).0 o in
      let k : upper T ≤ℤ (s -ℤ pos 1) = omega (whole, minus_read s (pos 1)) in
      (infeasible_never p).0 (infeasible_exactly.1 (λ a. c.1 (attainable_above p k a))) s c.0

  optimal_not_below : (s : ℤ) → Optimal p s → s ≤ℤ lower T → ⊥
  optimal_not_below s o h =
      let c = (optimal_exactly p s).0 o in
      c.1 (unbounded_exactly.1 (attainable_above p h c.0) (s -ℤ pos 1))

  -- So it lies within ±T.
  pub optimal_range : (s : ℤ) → Optimal p s → nat_abs s ≤ T
  optimal_range s o = ⊎_elim
      (λ (h : s ≤ℤ upper T). ⊎_elim
      (λ (k : s ≤ℤ lower T). absurd (optimal_not_below s o k))
      (λ (k : lower T <ℤ s). abs_show s (omega whole) (omega whole))
      (le_or_lt s (lower T)))
      (λ (h : upper T <ℤ s). absurd (optimal_not_above s o h))
      (le_or_lt s (upper T))

-- For every problem, whatever its limit: infeasible exactly when class 3 accepts some start with picks,
pub infeasible_accepted : (p : Problem) → Infeasible p ↔ SomeStart p (λ Start. AcceptedInfeasible Start p)
infeasible_accepted p = (λ h. unattainable_accepted p _ _ (within_some p) (le_refl _) ((infeasible_never p).0 h _), accepted_infeasible p)

-- and unbounded exactly when class 2 accepts some variable of the second list with row picks.
pub unbounded_accepted : (p : Problem) → Unbounded p ↔ SomeSecond p (λ Start. AcceptedUnbounded Start p)
unbounded_accepted p = (λ u. attainable_accepted p _ _ (within_some p) (le_refl _) (u _), accepted_unbounded p)

-- ---- one class holds

-- One of the three classes holds.
pub classified : (p : Problem) → Infeasible p ⊎ (HasOptimal p ⊎ Unbounded p)
classified p = go (attainable_decided p (upper T)) (attainable_decided p (lower T))
  where
    L : ℕ
    L = bound (system_at p (pos 0))

    T : ℕ
    T = 2 * (suc p.n * L)

    go : Attainable p (upper T) ⊎ (Attainable p (upper T) → ⊥) → Attainable p (lower T) ⊎ (Attainable p (lower T) → ⊥)
        → Infeasible p ⊎ (HasOptimal p ⊎ Unbounded p)
    go (inr d) r = inl ((infeasible_exactly p L T (within_some p) (le_refl T)).1 d)
    go (inl a) (inl b) = inr (inr ((unbounded_exactly p L T (within_some p) (le_refl T)).1 b))
    go (inl a) (inr d) =
        let e : pos T -ℤ pos (suc (T + T)) ≡ negsuc T = omega (whole, minus_read (upper T) (pos (suc (T + T)))) in
        inr (inl (descend p (suc (T + T)) (upper T) a (rw e d)))

-- ---- no two of the classes hold

-- An infeasible problem is not unbounded.
pub infeasible_not_unbounded : (p : Problem) → Infeasible p → Unbounded p → ⊥
infeasible_not_unbounded p h u = (infeasible_never p).0 h (pos 0) (u (pos 0))

-- An infeasible problem has no optimal value.
pub infeasible_not_optimal : (p : Problem) → Infeasible p → HasOptimal p → ⊥
infeasible_not_optimal p h o = (infeasible_never p).0 h o.at ((optimal_exactly p o.at).0 o.optimal).0

-- An unbounded problem has none either.
pub unbounded_not_optimal : (p : Problem) → Unbounded p → HasOptimal p → ⊥
unbounded_not_optimal p u o = ((optimal_exactly p o.at).0 o.optimal).1 (u (o.at -ℤ pos 1))

-- There is at most one optimal value.
pub optimal_unique : (p : Problem) (s t : ℤ) → Optimal p s → Optimal p t → s ≡ t
optimal_unique p s t a b =
    let h : s ≤ℤ t = whole_below (rw b.value_is at (a.least b.point b.feasible b.counts)) in
    let k : t ≤ℤ s = whole_below (rw a.value_is at (b.least a.point a.feasible a.counts)) in
    omega whole

-- Class, span and trials of a problem are one.
pub found_one : {p : Problem} {c z k l : ℕ} {s t : Trop} → Found p c s k → Found p z t l → (c ≡ z) × (s ≡ t) × (k ≡ l)
found_one {p} (Solved.optimal {s = s} o) (Solved.optimal {s = t} q) = let e : s ≡ t = optimal_unique p s t o q in (refl, ap fin e, ap trials_optimal e)
found_one {p} (Solved.optimal {s = s} o) (Solved.unbounded u) = absurd (unbounded_not_optimal p u (record { at = s; optimal = o }))
found_one {p} (Solved.optimal {s = s} o) (Solved.infeasible n) = absurd (infeasible_not_optimal p n (record { at = s; optimal = o }))
found_one {p} (Solved.unbounded u) (Solved.optimal {s = s} o) = absurd (unbounded_not_optimal p u (record { at = s; optimal = o }))
found_one (Solved.unbounded u) (Solved.unbounded v) = (refl, refl, refl)
found_one {p} (Solved.unbounded u) (Solved.infeasible n) = absurd (infeasible_not_unbounded p n u)
found_one {p} (Solved.infeasible n) (Solved.optimal {s = s} o) = absurd (infeasible_not_optimal p n (record { at = s; optimal = o }))
found_one {p} (Solved.infeasible n) (Solved.unbounded u) = absurd (infeasible_not_unbounded p n u)
found_one (Solved.infeasible n) (Solved.infeasible o) = (refl, refl, refl)
