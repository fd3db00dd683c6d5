-- Starts: the anchor, one variable, two starts as one, the variables of the second list, and what an answer's start means. What holds from a start holds from each part of it, from which no more is
-- reached.
use Prim.Native.Nat.{ℕ, zero, suc, ◌<◌}
use mathlib.Core.Path.{◌≡◌}
use mathlib.Core.Logic.{◌⊎◌, inl, inr, ⊎_elim}
use native.Mathlib.Omega.{arith}
use native.Mathlib.Decide.{ℕ_discrete}
use lib.IntN.{ℤ}
use Rattle.definitions.specs.Problem.{Problem, Point}
use Rattle.definitions.specs.Certificate.{Strategy, Anchor, Second, start_of, AnchorAnd, Cycle, PicksCount, BelowZero, ObjectiveUnused, AcceptedOptimal, AcceptedInfeasible, RowPicksCount, AtLeastZero, ObjectiveUnusedByRows, AcceptedUnbounded}
use Rattle.definitions.proofs.Counts.{second_decided}
use Rattle.duality.specs.Starts.{Only, Either, StartBelow}
use Rattle.duality.specs.System.{System, Blocks, Saves}
use Rattle.duality.proofs.Reach.{reach_map, circuit_map}

-- ---- starts

-- The start of one variable.
pub only_below : {N : ℕ} (k : ℕ) → k < N → StartBelow N (Only k)
only_below k h = record { decided = λ j. is_or_not j (ℕ_discrete j k); inside = λ j e. rw e h }
  where
    is_or_not : (j : ℕ) → Dec (j ≡ k) → (j ≡ k) ⊎ (j ≡ k → ⊥)
    is_or_not j (yes e) = inl e
    is_or_not j (no d) = inr d

-- Two starts as one.
pub either_below : {N : ℕ} {A B : ℕ → Type 0} → StartBelow N A → StartBelow N B → StartBelow N (Either A B)
either_below {A = A} {B = B} a b = record { decided = λ j. go j (a.decided j) (b.decided j); inside = λ j. ⊎_elim (a.inside j) (b.inside j) }
  where
    go : (j : ℕ) → A j ⊎ (A j → ⊥) → B j ⊎ (B j → ⊥) → Either A B j ⊎ (Either A B j → ⊥)
    go j (inl h) d = inl (inl h)
    go j (inr n) (inl h) = inl (inr h)
    go j (inr n) (inr m) = inr (⊎_elim n m)

-- The anchor is a variable of every problem.
pub anchor_below : (p : Problem) → StartBelow (suc p.n) Anchor
anchor_below p = only_below 0 (omega arith)

-- So are the variables of the second list,
pub second_below : (p : Problem) → StartBelow (suc p.n) (Second p)
second_below p = record { decided = second_decided p; inside = λ j s. omega (arith, s.inside) }

-- whatever an answer's start means,
pub start_below : (p : Problem) (start : ℕ) → StartBelow (suc p.n) (start_of p start)
unfolding start_of
start_below p zero = anchor_below p
start_below p (suc k) = second_below p

-- and the anchor with one of the second list.
pub anchor_and_below : (p : Problem) (k : ℕ) → Second p k → StartBelow (suc p.n) (AnchorAnd k)
anchor_and_below p k s = either_below (anchor_below p) (only_below k ((second_below p).inside k s))

-- ---- from a part of the start

module _ {A B : ℕ → Type 0} (part : (j : ℕ) → B j → A j) where
  -- A strategy that blocks from the whole blocks from the part,
  pub blocks_from : {s : System} {τ : Strategy} → Blocks s A τ → Blocks s B τ
  blocks_from b = record {
    counts = λ j r. b.counts j (reach_map part (λ j l a. a) r);
    negative = λ w c. b.negative w (circuit_map part (λ j l a. a) (λ j l w a. a) c);
  }

  -- and one of rows that saves from it saves.
  pub saves_from : {s : System} {σ : Strategy} → Saves s A σ → Saves s B σ
  saves_from v = record {
    counts = λ i j h r l. v.counts i j h (reach_map part (λ j l a. a) r) l;
    nonnegative = λ w c. v.nonnegative w (circuit_map part (λ j l a. a) (λ j l w a. a) c);
  }

  cycle_from : {L : ℕ → ℕ → Type 0} {Arc : ℕ → ℕ → ℤ → Type 0} {w : ℤ} → Cycle B L Arc w → Cycle A L Arc w
  cycle_from c = record { at = c.at; arcs = c.arcs; reachable = reach_map part (λ j l a. a) c.reachable; walk = c.walk; distinct = c.distinct }

  module _ {p : Problem} {picks : Strategy} where
    -- The conditions of each class hold from the part,
    pub count_from : PicksCount A p picks → PicksCount B p picks
    count_from count j r = count j (reach_map part (λ j l a. a) r)

    pub below_from : {t : ℤ} → BelowZero A p picks t → BelowZero B p picks t
    below_from below w c = below w (cycle_from c)

    unused_from : ObjectiveUnused A p picks → ObjectiveUnused B p picks
    unfolding cycle_from
    unused_from none w c u = none w (cycle_from c) u

    pub row_count_from : RowPicksCount A p picks → RowPicksCount B p picks
    row_count_from count i j h r l = count i j h (reach_map part (λ j l a. a) r) l

    pub at_least_from : {t : ℤ} → AtLeastZero A p picks t → AtLeastZero B p picks t
    at_least_from more w c = more w (cycle_from c)

    row_unused_from : ObjectiveUnusedByRows A p picks → ObjectiveUnusedByRows B p picks
    unfolding cycle_from
    row_unused_from none w c u = none w (cycle_from c) u

    -- so that what each accepts from the whole, it accepts from the part.
    pub optimal_from : {s : ℤ} {x : Point} → AcceptedOptimal A p s x picks → AcceptedOptimal B p s x picks
    optimal_from a = record {
      feasible = a.feasible;
      value_is = a.value_is;
      picks_count = count_from a.picks_count;
      below_zero = below_from a.below_zero;
    }

    pub infeasible_from : AcceptedInfeasible A p picks → AcceptedInfeasible B p picks
    infeasible_from a = record {
      picks_count = count_from a.picks_count;
      no_objective = unused_from a.no_objective;
      below_zero = below_from a.below_zero;
    }

    pub unbounded_from : AcceptedUnbounded A p picks → AcceptedUnbounded B p picks
    unbounded_from a = record {
      picks_count = row_count_from a.picks_count;
      no_objective = row_unused_from a.no_objective;
      zero_or_more = at_least_from a.zero_or_more;
    }
