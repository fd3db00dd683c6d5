-- Rows chosen: what stands where; with all rows chosen nothing changes; a row whose left side is blank is kept by every plan; of two
-- rules the second alone. (That plans, classes and certificates are carried over is proved in `selection`.)
use Prim.Native.Nat.{ℕ, zero, suc, ◌+◌, ◌*◌, ◌≤◌, ◌<◌}
use mathlib.Core.Path.{◌≡◌, refl, ap}
use mathlib.Core.Logic.{⊎_elim}
use native.Mathlib.Omega.{arith}
use lib.IntN.{pos}
use borrow.Author.Tests.{lt-ltb, le-ltb}
use Rattle.definitions.specs.Tropical.{Trop, bot, fin, plus, blank_least}
use Rattle.definitions.specs.Problem.{Problem, Point, side, Keeps}
use Rattle.definitions.specs.Selection.{row_of, selected, Choice, Ascending, LeftOut, BlankLeft, BlankRow, SameClass, place_of, renumber, rows_renumbered}
use Rattle.base.proofs.Numbers.{nat_le_or_lt}
use Rattle.definitions.proofs.Tropical.{⊑_trans, bot_plus, largest_least}
use Rattle.definitions.proofs.Agree.{Agree}

-- ---- what stands where

-- Row i is row f i of p,
pub row_chosen : (p : Problem) (f : ℕ → ℕ) (m' i : ℕ) → i < m' → row_of p f m' i ≡ f i
unfolding row_of
row_chosen p f m' i h = rw (lt-ltb i m' h)

-- and row m' is the objective.
pub row_objective : (p : Problem) (f : ℕ → ℕ) (m' : ℕ) → row_of p f m' m' ≡ p.m
unfolding row_of
row_objective p f m' = rw (le-ltb m' m' (omega arith))

-- With all rows chosen nothing changes.
pub all_chosen : (p : Problem) → Agree (selected p (λ i. i) p.m) p
all_chosen p =
    record {
      same_n = refl;
      same_m = refl;
      left = λ i j h k. ap (λ (r : ℕ). p.left r j) (same i h);
      right = λ i j h k. ap (λ (r : ℕ). p.right r j) (same i h);
    }
  where
    same : (i : ℕ) → i ≤ p.m → row_of p (λ i. i) p.m i ≡ i
    same i h = ⊎_elim
        (λ (l : p.m ≤ i). let e : i ≡ p.m = omega arith in rw (e, row_objective p (λ k. k) p.m))
        (λ (l : i < p.m). row_chosen p (λ k. k) p.m i l)
        (nat_le_or_lt p.m i)

-- ---- rows that every plan keeps

-- One whose left side is all blank.
pub blank_left_kept : {p : Problem} {i : ℕ} → BlankLeft p i → (x : Point) → Keeps p x i
unfolding side
blank_left_kept {p} {i} b x =
    ⊑_trans (largest_least (λ j. plus (p.left i j) (x j)) (suc p.n) (λ j h. rw (b.left j (omega arith), bot_plus (x j)) blank_least)) blank_least

-- ---- the same class

-- A problem has its own class.
pub same_class_itself : (p : Problem) → SameClass p p
same_class_itself p =
    record {
      least_exactly = λ s. (λ o. o, λ o. o);
      bottomless_exactly = (λ u. u, λ u. u);
      none_exactly = (λ i. i, λ i. i);
    }

-- ---- two rules, of which the second is chosen

-- Row 0 is blank; each other coefficient has a number of its own.
coefficient : ℕ → ℕ → Trop
coefficient zero k = bot
coefficient (suc i) k = fin (pos (10 * suc i + k))

two_rules : Problem
two_rules = record { n = 1; m = 2; left = λ i j. coefficient i j; right = λ i j. coefficient i (2 + j) }

second : Problem
second = selected two_rules (λ i. 1) 1

second_size : (second.n ≡ 1) × (second.m ≡ 1)
unfolding second two_rules
second_size = (refl, refl)

-- Its rule is the second rule,
second_rule :
    (second.left 0 0 ≡ fin (pos 10)) × (second.left 0 1 ≡ fin (pos 11)) × (second.right 0 0 ≡ fin (pos 12)) × (second.right 0 1 ≡ fin (pos 13))
unfolding second two_rules coefficient row_of
second_rule = (refl, refl, refl, refl)

-- its objective the objective, row 2.
second_objective :
    (second.left 1 0 ≡ fin (pos 20)) × (second.left 1 1 ≡ fin (pos 21)) × (second.right 1 0 ≡ fin (pos 22)) × (second.right 1 1 ≡ fin (pos 23))
unfolding second two_rules coefficient row_of
second_objective = (refl, refl, refl, refl)

-- This is a choice of rows; the row left out is the first, which is blank.
second_choice : Choice two_rules (λ i. 1) 1 × Ascending (λ i. 1) 1 × LeftOut two_rules (λ i. 1) 1 0
unfolding two_rules
second_choice = (
  record { inside = λ i h. omega arith },
  record { rises = λ i k h l. absurd (omega arith) },
  record { inside = omega arith; nowhere = λ k h e. omega arith },
)

second_left_out : (i : ℕ) → LeftOut two_rules (λ i. 1) 1 i → BlankRow two_rules i
unfolding two_rules coefficient
second_left_out zero o = record { left = record { left = λ j h. refl }; right = λ j h. refl }
second_left_out (suc zero) o = absurd (o.nowhere 0 (omega arith) refl)
second_left_out (suc (suc i)) o = absurd (omega (arith, o.inside))

-- No pick stays none, a pick of the first rule becomes none, of the second 1, of the objective 2.
second_picks :
    (renumber two_rules (λ i. 1) 1 0 ≡ 0) × (renumber two_rules (λ i. 1) 1 1 ≡ 0) × (renumber two_rules (λ i. 1) 1 2 ≡ 1) × (renumber two_rules (λ i. 1) 1 3 ≡ 2)
unfolding two_rules row_of place_of renumber
second_picks = (refl, refl, refl, refl)

-- Of the picks of three rows those of the second and of the objective stay.
second_row_picks :
    (picks : ℕ → ℕ) → (rows_renumbered two_rules (λ i. 1) 1 picks 0 ≡ picks 1) × (rows_renumbered two_rules (λ i. 1) 1 picks 1 ≡ picks 2)
unfolding two_rules row_of
second_row_picks picks = (refl, refl)
