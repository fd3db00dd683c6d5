-- Laws of the pass over the rows.
use Prim.Native.Nat.{ℕ, ◌+◌, ◌≤◌, ◌<◌}
use mathlib.Core.Path.{◌≡◌, sym, subst}
use mathlib.Core.Bool.{true, false}
use mathlib.Core.Logic.{⊎_elim}
use mathlib.Core.List.{List, []}
use native.Mathlib.Omega.{arith}
use native.Mathlib.Nat.{eq-zero-or-pos}
use Rattle.base.proofs.Numbers.{nat_le_or_lt}
use Rattle.definitions.specs.Tropical.{◌⊑◌}
use Rattle.definitions.specs.Problem.{Point}
use Rattle.definitions.proofs.Tropical.{⊑_trans, ⊑_of_eq}
use Rattle.definitions.proofs.Offset.{trop_order}
use Rattle.duality.specs.System.{System, side_of}
use Rattle.policy_iteration.specs.Tables.{system_of, point_of, high, highs}
use Rattle.policy_iteration.specs.Rounds.{SideIs}
use Rattle.policy_iteration.proofs.Low.{high_zero, high_mono, high_whole}
use Rattle.merging.specs.Plans.{Stand}

-- The first n rows stand.
abbrev pub StandTo : System → Point → ℕ → Type 0
StandTo s x n = (i : ℕ) → i < n → side_of s (s.left i) x ⊑ side_of s (s.right i) x

module _ (x : List ℕ) (rows : ℕ) {left right : List ℕ} {width n here there : ℕ} (a : SideIs right n (highs x) width here) (b : SideIs left n (highs x) width there) where
  stands_here : there ≤ here → side_of (system_of left right [] width rows) ((system_of left right [] width rows).left n) (point_of (highs x))
      ⊑ side_of (system_of left right [] width rows) ((system_of left right [] width rows).right n) (point_of (highs x))
  stands_here h = ⊑_trans (⊑_of_eq (sym b.is)) (⊑_trans ((trop_order (high there) (high here)).1 (high_mono there here h)) (⊑_of_eq a.is))

  -- One row more stands.
  pub stand_more : (here < there → ⊥) → StandTo (system_of left right [] width rows) (point_of (highs x)) n → StandTo (system_of left right [] width rows) (point_of (highs x)) (n + 1)
  stand_more d f i h = ⊎_elim
      (λ (l : n ≤ i). let e : n ≡ i = omega arith in
      subst (λ (i : ℕ). side_of (system_of left right [] width rows) ((system_of left right [] width rows).left i) (point_of (highs x))
      ⊑ side_of (system_of left right [] width rows) ((system_of left right [] width rows).right i) (point_of (highs x))) e (stands_here (not_below d)))
      (λ (l : i < n). f i l)
      (nat_le_or_lt n i)
    where
      not_below : (here < there → ⊥) → there ≤ here
      not_below d = ⊎_elim (λ (l : there ≤ here). l) (λ (l : here < there). absurd (d l)) (nat_le_or_lt there here)

  -- A row that does not stand: no solution.
  pub stand_not : n < rows → here < there → Stand (system_of left right [] width rows) (point_of (highs x)) false
  stand_not h l = record {
    yes = λ e. let z : ◌≡◌ {A = ℕ} 0 1 = cc in absurd (omega arith);
    no = λ e f.
        let o = (trop_order (high there) (high here)).0 (⊑_trans (⊑_of_eq b.is) (⊑_trans (f n h) (⊑_of_eq (sym a.is)))) in
        higher here there l o;
  }
    where
      higher : (a b : ℕ) → a < b → high b ≤ high a → ⊥
      higher a b h k = ⊎_elim
          (λ (e : a ≡ 0). let z : high a ≡ 0 = rw e high_zero in omega (arith, high_whole b (omega arith)))
          (λ (p : 0 < a). omega (arith, high_whole a p, high_whole b (omega arith)))
          (eq-zero-or-pos a)

-- All rows stand.
pub stand_all : {s : System} {x : Point} {n : ℕ} → StandTo s x n → s.rows ≤ n → Stand s x true
stand_all f h = record { yes = λ e i l. f i (omega arith); no = λ e. let z : ◌≡◌ {A = ℕ} 0 1 = cc in absurd (omega arith) }
