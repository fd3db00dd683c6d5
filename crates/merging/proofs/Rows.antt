-- A plan at the rows of two tables: its stamps as low numbers, and what a pass over the rows tells of the problem that stands in the tables.
use Prim.Native.Nat.{ℕ, zero, suc, ◌+◌, ◌-◌, ◌≤◌, ◌<◌}
use mathlib.Core.Path.{◌≡◌, refl, ap, ◌∙◌}
use mathlib.Core.Bool.{Bool, true, false}
use mathlib.Core.List.{List, []}
use mathlib.Core.Logic.{⊎_elim}
use native.Mathlib.Omega.{arith}
use lib.ListN.{get_or, length-map, get_or-map}
use Rattle.base.proofs.Numbers.{nat_le_or_lt}
use borrow.Author.Tests.{ne_eqb}
use Rattle.base.specs.Decides.{Decides}
use Rattle.base.proofs.Decides.{said_no}
use Rattle.definitions.specs.Limits.{stamp_limit}
use Rattle.definitions.specs.Problem.{Problem, side}
use Rattle.definitions.specs.Offset.{trop_of}
use Rattle.definitions.specs.Merging.{KeepsRules}
use Rattle.definitions.proofs.Tropical.{largest_ext}
use Rattle.duality.specs.System.{side_of, Solves}
use Rattle.records.specs.Decoded.{Near, InTables}
use Rattle.records.specs.Stamps.{Stamped, stamps_point}
use Rattle.policy_iteration.specs.Tables.{entry_of, system_of, point_of, value_limit, low_half, high, highs, Lows}
use Rattle.policy_iteration.proofs.Low.{highs_at}
use Rattle.merging.specs.Plans.{LowPlan, Stand}

-- ---- low numbers

pub low_is : (stamp : ℕ) → Near stamp_limit stamp → high (stamp - low_half) ≡ stamp
unfolding high
low_is zero near = let e : 0 - low_half ≡ 0 = omega arith in rw e refl
low_is (suc k) near = let h = near.lo (omega arith) in rw (ne_eqb (suc k - low_half) 0 (omega arith)) (omega arith)

high_zero : high 0 ≡ 0
unfolding high
high_zero = refl

-- Stamps within their limit are values in range.
pub low_lows : (stamps : List ℕ) {x : List ℕ} (count : ℕ) → Stamped stamps → LowPlan stamps count x → Lows count x
low_lows stamps {x} count s f = record {
  size = f.size_is;
  ranged = record { size = length-map x high ∙ f.size_is; near = λ k. rw (highs_at x k) (⊎_elim (past k) (inside k) (nat_le_or_lt count k)) };
  rest = λ k b. f.rest k b;
}
  where
    past : (k : ℕ) → count ≤ k → Near value_limit (high (get_or x k 0))
    past k b = rw (f.rest k b, high_zero) (record { hi = omega arith; lo = λ h. absurd (omega arith) })

    inside : (k : ℕ) → k < count → Near value_limit (high (get_or x k 0))
    inside k b = rw (f.each k b) (record { hi = omega (arith, (s.near k).hi); lo = λ p. omega (arith, (s.near k).lo p) })

-- They stand for the same point.
low_point : (stamps : List ℕ) {x : List ℕ} {count : ℕ} → LowPlan stamps count x → (j : ℕ) → j < count → point_of (highs x) j ≡ stamps_point stamps j
unfolding stamps_point
low_point stamps {x} f j h = ap trop_of ((rw high_zero at (get_or-map high x j 0)) ∙ f.each j h)

-- ---- rows

module _ {p : Problem} {n m : ℕ} {left right : List ℕ} (t : InTables p n m left right) (stamps : List ℕ) {x : List ℕ} (f : LowPlan stamps (n + 1) x) where
  -- The sides of a row in the tables are those of the problem.
  left_side : (i : ℕ) → i < m → side_of (system_of left right [] (n + 1) m) (entry_of left i) (point_of (highs x)) ≡ side p.n (p.left i) (stamps_point stamps)
  unfolding side
  left_side i h =
      let w : n + 1 ≡ suc p.n = omega (arith, t.n_is) in
      rw w (largest_ext _ _ (suc p.n) (λ j l.
      rw (low_point stamps f j (omega arith), t.decoded.left_is i j (omega (arith, t.m_is)) (omega arith)) refl))

  right_side : (i : ℕ) → i < m → side_of (system_of left right [] (n + 1) m) (entry_of right i) (point_of (highs x)) ≡ side p.n (p.right i) (stamps_point stamps)
  unfolding side
  right_side i h =
      let w : n + 1 ≡ suc p.n = omega (arith, t.n_is) in
      rw w (largest_ext _ _ (suc p.n) (λ j l.
      rw (low_point stamps f j (omega arith), t.decoded.right_is i j (omega (arith, t.m_is)) (omega arith)) refl))

  -- The point solves the rows exactly when the plan keeps the rules.
  solves_keeps : Solves (system_of left right [] (n + 1) m) (point_of (highs x)) → KeepsRules p (stamps_point stamps)
  solves_keeps s i h = let k : i < m = omega (arith, t.m_is) in rw (← left_side i k, ← right_side i k) (s i k)

  keeps_solves : KeepsRules p (stamps_point stamps) → Solves (system_of left right [] (n + 1) m) (point_of (highs x))
  keeps_solves k i h = rw (left_side i h, right_side i h) (k i (omega (arith, t.m_is)))

  pub stand_keeps : {r : Bool} → Stand (system_of left right [] (n + 1) m) (point_of (highs x)) r → Decides (KeepsRules p (stamps_point stamps)) r
  stand_keeps d = record { yes = λ e. solves_keeps (d.yes e); no = λ e k. d.no e (keeps_solves k) }

-- ---- two answers

-- The one does not hold; or it does, and the other decides.
pub first_no : {P Q : Type 0} {r : Bool} → Decides P r → r ≡ false → Decides (P × Q) r
first_no d e = rw e (said_no (λ k. d.no e k.0))

pub then_second : {P Q : Type 0} {r s : Bool} → Decides P r → r ≡ true → Decides Q s → Decides (P × Q) s
then_second d e f = record { yes = λ g. (d.yes e, f.yes g); no = λ g k. f.no g k.1 }
