-- The rows of a record: of kind 1 they stand as they are; of kind 5 those of suspended rules are blank, and the others stand as they
-- are, under their own numbers. Document 02, 2.10.
use Prim.Native.Nat.{ℕ}
use mathlib.Core.Path.{◌≡◌, refl}
use mathlib.Core.Bool.{Bool, true, false, ◌&&◌}
use mathlib.Core.List.{List, [], ◌∷◌, map}
use native.Mathlib.Omega.{arith}
use lib.Dec.{eqb}
use lib.IntN.{pos}
use borrow.Author.Tests.{le-ltb}
use Rattle.definitions.specs.Limits.{problem_kind, states_kind}
use Rattle.definitions.specs.Tropical.{bot, fin}
use Rattle.definitions.specs.Bytes.{num_at, signed, trop_field, trop_at}
use Rattle.definitions.specs.ProblemRecord.{kind_field, n_field, m_field, leads_place, left_from, right_from, left_place, right_place, suspended, problem_of}
use Rattle.definitions.specs.Selection.{BlankRow, left_below, left_at, row_of}
use Rattle.definitions.specs.Suspended.{rules_in_force, only_in_force}

-- ---- kind 1

pub plain_left : (s : List ℕ) → kind_field s ≡ problem_kind → (i j : ℕ) → (problem_of s).left i j ≡ trop_at s (left_place (n_field s) i j)
unfolding problem_of
plain_left s k i j = rw k refl

pub plain_right : (s : List ℕ) → kind_field s ≡ problem_kind → (i j : ℕ) → (problem_of s).right i j ≡ trop_at s (right_place (n_field s) i j)
unfolding problem_of
plain_right s k i j = rw k refl

-- ---- kind 5

module _ (s : List ℕ) (i : ℕ) where
  -- A suspended rule: blank,
  pub suspended_left : suspended s i ≡ true → (j : ℕ) → (problem_of s).left i j ≡ bot
  unfolding problem_of
  suspended_left e j = rw e refl

  pub suspended_right : suspended s i ≡ true → (j : ℕ) → (problem_of s).right i j ≡ bot
  unfolding problem_of
  suspended_right e j = rw e refl

  pub suspended_blank : suspended s i ≡ true → BlankRow (problem_of s) i
  suspended_blank e = record { left = record { left = λ j h. suspended_left e j }; right = λ j h. suspended_right e j }

  -- any other row: as it stands.
  pub stands_left : suspended s i ≡ false → (j : ℕ) → (problem_of s).left i j ≡ trop_at s (left_from (leads_place (kind_field s) (m_field s)) (n_field s) i j)
  unfolding problem_of
  stands_left e j = rw e refl

  pub stands_right : suspended s i ≡ false → (j : ℕ) → (problem_of s).right i j ≡ trop_at s (right_from (leads_place (kind_field s) (m_field s)) (n_field s) i j)
  unfolding problem_of
  stands_right e j = rw e refl

-- The question is no rule, and has no state.
pub question_stands : (s : List ℕ) → suspended s (m_field s) ≡ false
question_stands s = rw (le-ltb (m_field s) (m_field s) (omega arith)) (neither (eqb (kind_field s) states_kind))
  where
    neither : (t : Bool) → (t && false) ≡ false
    neither true = refl
    neither false = refl

-- ---- two rules of one moment, of which the first is suspended

lifted_first : List ℕ
lifted_first =
    34 ∷ 0 ∷ 0 ∷ 0 ∷ 5 ∷ 0 ∷ 0 ∷ 0 ∷ 2 ∷ 0 ∷ 0 ∷ 0 ∷ 1 ∷ 0 ∷ 7 ∷ 0 ∷ 0 ∷ 0 ∷ 2 ∷ 0 ∷ 0 ∷ 0 ∷ 1 ∷ 0 ∷ 0 ∷ 0 ∷ 3 ∷ 0 ∷ 0 ∷ 0 ∷ 5 ∷ 0 ∷ 0 ∷ 0 ∷ 4 ∷ 0 ∷ 0 ∷ 0 ∷ []

-- Its left leads and its right leads, rule by rule, and the question's.
lifted_rows :
    (map (λ i. (problem_of lifted_first).left i 0) (0 ∷ 1 ∷ 2 ∷ []) ≡ bot ∷ fin (pos 1) ∷ fin (pos 5) ∷ [])
    × (map (λ i. (problem_of lifted_first).right i 0) (0 ∷ 1 ∷ 2 ∷ []) ≡ bot ∷ fin (pos 3) ∷ fin (pos 4) ∷ [])
unfolding lifted_first problem_of trop_at trop_field signed num_at
lifted_rows = (refl, refl)

-- The problem that holds only the rules in force has the second, and the question.
lifted_only : (rules_in_force lifted_first ≡ 1) × (map (λ i. (only_in_force lifted_first).left i 0) (0 ∷ 1 ∷ []) ≡ fin (pos 1) ∷ fin (pos 5) ∷ [])
unfolding lifted_first problem_of trop_at trop_field signed num_at left_below left_at row_of
lifted_only = (refl, refl)
